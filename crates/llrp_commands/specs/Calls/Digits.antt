-- What hexadecimal digits that come in pieces spell so far.
use Rattle.std.specs.Prelude.{◌≡◌, ℕ, List, [], ◌∷◌, ◌++◌, Bool, true, false, not, filter, Option, None, Some}
use Rattle.llrp_listing.specs.Calls.Hexadecimal.{IsHexDigit, SpellBytes, is_space}

-- the octet is a digit of no value
abbrev pub IsNoDigit : ℕ → Type 0
IsNoDigit octet = (n : ℕ) → ¬ IsHexDigit octet n

-- the digits of a text: what is left of it once its spaces are left out
abbrev pub digits_of : List ℕ → List ℕ
digits_of text = filter (λ octet. not (is_space octet)) text

-- The text is digits that spell the octets, and after them the first digit of one more, where there is one: `half` is its value.
abbrev pub SpellsFront : (text octets : List ℕ) → Option ℕ → Type 0
SpellsFront text octets None = SpellBytes (digits_of text) octets
SpellsFront text octets (Some high) = (digits : List ℕ) × (first : ℕ) × (digits_of text ≡ digits ++ first ∷ []) × SpellBytes digits octets × IsHexDigit first high

-- a text ends here, or else an octet comes that is neither digit nor space
abbrev pub StopsAt : Bool → List ℕ → Type 0
StopsAt true rest = rest ≡ []
StopsAt false [] = ⊥
StopsAt false (octet ∷ rest) = (is_space octet ≡ false) × IsNoDigit octet

-- A text spells octets, and half of one more, by all of it or by what stands before its first octet that is neither digit nor space.
pub record Spells (text octets : List ℕ) (half : Option ℕ) (right : Bool) : Type 0 where
  pub front : List ℕ
  pub rest : List ℕ
  pub whole : text ≡ front ++ rest
  pub spells : SpellsFront front octets half
  pub stops : StopsAt right rest
