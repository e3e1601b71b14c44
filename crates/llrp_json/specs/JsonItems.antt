-- The fields, the tail and the parameters of a message or a parameter as members of its object in JSON, under the tables' names.
use Rattle.std.specs.Prelude.{◌≡◌, ℕ, ◌==◌, if◌then◌else◌, List, [], ◌∷◌, ◌++◌, codes, decimal, map}
use Rattle.std.specs.List.{flat_map}
use Rattle.hex.specs.Hex.{encode_lower}
use Rattle.llrp_schema.specs.declared.kinds.Kind.TheVariants.{Parameter}
use Rattle.llrp_schema.specs.declared.kinds.Tail.{Tail}
use Rattle.llrp_schema.specs.declared.kinds.Tail.TheVariants.{Absent, Words, Text, Bits, Data}
use Rattle.llrp_schema.specs.Schema.{FieldRule, name_of, plain_fields_of, tail_of}
use Rattle.llrp_tree.specs.Tree.{Forest, none, and, words_of}
use Rattle.llrp_listing.specs.NodeLine.{NumberForm, Epc, field_form, IsNumberText}
use Rattle.tag_uri.specs.TagText.{IsTextOf}
use Rattle.llrp_json.specs.JsonValues.{quoted, string, array, member, object}

-- ---- fields

-- the value of a number: a string with the text of an EPC's word, and else the number as listings have it
abbrev pub IsValue : NumberForm → ℕ → List ℕ → Type 0
IsValue Epc n value = (text : List ℕ) × IsTextOf n text × (value ≡ string text)
IsValue form n value = IsNumberText form n value

-- the name of a field: only that of EPC-96, whose field has no name of its own, has 96 bits
abbrev pub field_name : FieldRule → List ℕ
field_name rule = if rule.width == 96 then codes "EPC" else rule.name

-- the members of plain fields, one for each
abbrev pub AreFields : List FieldRule → List ℕ → List (List ℕ) → Type 0
AreFields [] [] [] = Unit {0}
AreFields (r ∷ rs) (n ∷ ns) (m ∷ ms) = ((value : List ℕ) × IsValue (field_form r) n value × (m ≡ member (field_name r) value)) × AreFields rs ns ms
AreFields _ _ _ = ⊥

-- ---- tails and parameters

-- the member of a tail, where the kind has one
abbrev pub tail_members : Tail → List ℕ → List (List ℕ)
tail_members Absent tail = []
tail_members Words tail = member (codes "words") (array (map decimal (words_of tail))) ∷ []
tail_members Text tail = member (codes "text") (string tail) ∷ []
tail_members Bits tail = member (codes "bits") (quoted (encode_lower tail)) ∷ []
tail_members Data tail = member (codes "octets") (quoted (encode_lower tail)) ∷ []

-- the member of the parameters below a node, where there are any
abbrev pub parameters_members : List (List ℕ) → List (List ℕ)
parameters_members [] = []
parameters_members (text ∷ texts) = member (codes "parameters") (array (text ∷ texts)) ∷ []

-- members after others, each after a comma
abbrev pub more_members : List (List ℕ) → List ℕ
more_members members = flat_map (λ text. 44 ∷ text) members

-- the objects of parameters in a row, one for each
abbrev pub AreParameters : Forest → List (List ℕ) → Type 0
AreParameters none texts = texts ≡ []
AreParameters (and before kind fields tail children) texts =
    (earlier members below : List (List ℕ)) × AreParameters before earlier × AreFields (plain_fields_of (Parameter kind)) fields members × AreParameters children below
    × (texts ≡ earlier ++ object (member (codes "parameter") (string (name_of (Parameter kind))) ∷ (members ++ (tail_members (tail_of (Parameter kind)) tail ++ parameters_members below))) ∷ [])
