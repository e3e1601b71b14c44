-- What one more digit makes of those that came.
use Rattle.std.specs.Prelude.{◌≡◌, ℕ, List, [], ◌∷◌, ◌++◌, false, Option}
use Rattle.llrp_listing.specs.Calls.Hexadecimal.{IsHexDigit, is_space}
use Rattle.llrp_commands.specs.Calls.Digits.{SpellsFront}

-- after a text came a digit of this value, and one more octet if it was the second of two
abbrev pub IsPushed : (before : List ℕ) → (half : Option ℕ) → (after : List ℕ) → (now : Option ℕ) → (value : ℕ) → Type 0
IsPushed before half after now value =
    (text octets : List ℕ) (digit : ℕ) → SpellsFront text (octets ++ before) half → is_space digit ≡ false → IsHexDigit digit value → SpellsFront (text ++ digit ∷ []) (octets ++ after) now
