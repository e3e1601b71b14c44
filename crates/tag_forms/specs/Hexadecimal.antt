-- The hexadecimal digits of a word as people write them. Texts are lists of their UTF-8 octets.
use Rattle.std.specs.Prelude.{◌≡◌, ℕ, ◌^◌, ◌<◌, ◌==◌, ◌||◌, ◌⊎◌, not, Bool, List, ◌++◌, map, filter, codes}
use Rattle.std.specs.Char.{to_ascii_uppercase}
use Rattle.tag_uri.specs.Hexadecimal.{hexadecimal}

-- whether a character is none of those that divide digits: blank (32) and colon (58)
abbrev pub is_kept : ℕ → Bool
is_kept c = not (c == 32 || c == 58)

-- the digits of a text in upper case, without the characters that divide them
abbrev pub kept_digits : List ℕ → List ℕ
kept_digits text = map to_ascii_uppercase (filter is_kept text)

-- the text is the 24 digits of the word in either case, divided or not, and after 0x or not
pub record IsHexOf (text : List ℕ) (word : ℕ) : Type 0 where
  pub below : word < 2 ^ 96
  pub digits : List ℕ
  pub marked : (text ≡ digits) ⊎ (text ≡ codes "0x" ++ digits)
  pub are : kept_digits digits ≡ hexadecimal 24 word
