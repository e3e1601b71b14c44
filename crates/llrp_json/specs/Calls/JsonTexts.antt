-- Texts of JSON as octets of UTF-8 (RFC 8259, sections 3 to 7). Of its rules those for white space, fractions, exponents, false and null are left out.
use Rattle.std.specs.Prelude.{◌≡◌, ◌≢◌, ◌⊎◌, ℕ, ◌<◌, ◌≤◌, List, [], ◌∷◌, ◌++◌, codes, length, get_or, true}
use Rattle.std.specs.List.{AllByRecursion, flat_map}
use Rattle.std.specs.Str.{all_ascii_digits}
use Rattle.hex.specs.Hex.{encode_lower}

-- an octet of a character of a string that is no control, quote (34) or backslash (92), or an escape: of a quote, of a backslash, or \u and four hexadecimal digits (section 7)
abbrev pub IsCharacter : List ℕ → Type 0
IsCharacter text =
    ((c : ℕ) × (32 ≤ c) × (c ≢ 34) × (c ≢ 92) × (text ≡ c ∷ [])) ⊎ (text ≡ 92 ∷ 34 ∷ []) ⊎ (text ≡ 92 ∷ 92 ∷ []) ⊎ ((c : ℕ) × (c < 256) × (text ≡ codes "\\u00" ++ encode_lower (c ∷ [])))

-- A string: characters between quotes.
pub record IsString (text : List ℕ) : Type 0 where
  pub characters : List (List ℕ)
  pub each : AllByRecursion IsCharacter characters
  pub text_is : text ≡ 34 ∷ (flat_map (λ character. character) characters ++ 34 ∷ [])

-- digits, of which the first of several is not 0 (section 6)
abbrev pub IsDigits : List ℕ → Type 0
IsDigits text = (all_ascii_digits text ≡ true) × (0 < length text) × (1 < length text → 48 < get_or text 0 0)

-- an integer: digits, after a minus or without one
abbrev pub IsInteger : List ℕ → Type 0
IsInteger text = IsDigits text ⊎ ((digits : List ℕ) × IsDigits digits × (text ≡ 45 ∷ digits))

-- what a text is: a value, the elements of an array, or the members of an object
pub data Part : Type 0 where
  Value : Part
  Elements : Part
  Members : Part

-- the text is one of JSON (sections 3 to 5)
pub data IsJson : Part → List ℕ → Type 0 where
  string : (text : List ℕ) → IsString text → IsJson Value text
  number : (text : List ℕ) → IsInteger text → IsJson Value text
  truth : IsJson Value (codes "true")
  empty_array : IsJson Value (codes "[]")
  array : (elements : List ℕ) → IsJson Elements elements → IsJson Value (91 ∷ (elements ++ 93 ∷ []))
  object : (members : List ℕ) → IsJson Members members → IsJson Value (123 ∷ (members ++ 125 ∷ []))
  one_element : (value : List ℕ) → IsJson Value value → IsJson Elements value
  more_elements : (value elements : List ℕ) → IsJson Value value → IsJson Elements elements → IsJson Elements (value ++ (44 ∷ elements))
  one_member : (name value : List ℕ) → IsString name → IsJson Value value → IsJson Members (name ++ (58 ∷ value))
  more_members : (name value members : List ℕ) → IsString name → IsJson Value value → IsJson Members members → IsJson Members ((name ++ (58 ∷ value)) ++ (44 ∷ members))

-- the line is one value and LF
abbrev pub IsLineOfJson : List ℕ → Type 0
IsLineOfJson line = (text : List ℕ) × IsJson Value text × (line ≡ text ++ 10 ∷ [])
