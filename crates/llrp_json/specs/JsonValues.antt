-- Values of JSON (RFC 8259). Texts are lists of octets of UTF-8: 34 is a quote, 44 a comma, 58 a colon, 92 a backslash.
use Rattle.std.specs.Prelude.{ℕ, ◌==◌, nat_lt, if◌then◌else◌, List, [], ◌∷◌, ◌++◌, codes}
use Rattle.std.specs.List.{flat_map, join_with_byte}
use Rattle.hex.specs.Hex.{encode_lower}

-- an octet of a string: a quote and a backslash come after a backslash, and a control is \u and four hexadecimal digits (section 7)
abbrev pub escaped : ℕ → List ℕ
escaped c = if c == 34 then 92 ∷ 34 ∷ [] else (if c == 92 then 92 ∷ 92 ∷ [] else (if nat_lt c 32 then codes "\\u00" ++ encode_lower (c ∷ []) else c ∷ []))

-- what stands between the quotes of a string
abbrev pub inside : List ℕ → List ℕ
inside text = flat_map escaped text

-- text between quotes
abbrev pub quoted : List ℕ → List ℕ
quoted text = 34 ∷ (text ++ 34 ∷ [])

-- a string
abbrev pub string : List ℕ → List ℕ
string text = quoted (inside text)

-- an array, of these values (section 5)
abbrev pub array : List (List ℕ) → List ℕ
array values = 91 ∷ (join_with_byte 44 values ++ 93 ∷ [])

-- a member of an object: its name and its value (section 4)
abbrev pub member : List ℕ → List ℕ → List ℕ
member name value = string name ++ (58 ∷ value)

-- an object, of these members
abbrev pub object : List (List ℕ) → List ℕ
object members = 123 ∷ (join_with_byte 44 members ++ 125 ∷ [])
