-- The binary digits that parameters and messages spell.
use Rattle.std.specs.Prelude.{ℕ, ◌+◌, ◌/◌, List, [], ◌∷◌, ◌++◌, length, Bool, if◌then◌else◌}
use Rattle.tag_bits.specs.Digits.{digits, digits_of_bytes}
use Rattle.llrp_schema.specs.declared.kinds.ParamKind.{ParamKind}
use Rattle.llrp_schema.specs.declared.kinds.MsgKind.{MsgKind}
use Rattle.llrp_schema.specs.declared.kinds.Kind.{Kind}
use Rattle.llrp_schema.specs.declared.kinds.Kind.TheVariants.{Message, Parameter}
use Rattle.llrp_schema.specs.declared.kinds.Tail.{Tail}
use Rattle.llrp_schema.specs.declared.kinds.Tail.TheVariants.{Absent, Words, Text, Bits, Data}
use Rattle.llrp_schema.specs.Schema.{FieldRule, fields_of, tail_of, number_of, is_tv}
use Rattle.llrp_tree.specs.Tree.{Forest, none, and, MessageTree}
use Rattle.llrp_tree.specs.Lawful.{head_octets, body_octets, octets, message_octets, first, others}

-- The start of a node: of a message, of a TLV of this many octets, of a TV.
pub data Head : Type 0 where
  message : (version : ℕ) (kind : MsgKind) (octets : ℕ) (id : ℕ) → Head
  tlv : (kind : ParamKind) (octets : ℕ) → Head
  tv : (kind : ParamKind) → Head

unfoldable pub head_digits : Head → List Bool
head_digits (message version kind octets id) = digits 3 0 ++ digits 3 version ++ digits 10 (number_of (Message kind)) ++ digits 32 octets ++ digits 32 id
head_digits (tlv kind octets) = digits 6 0 ++ digits 10 (number_of (Parameter kind)) ++ digits 16 octets
head_digits (tv kind) = digits 1 1 ++ digits 7 (number_of (Parameter kind))

-- the head of a parameter of this many octets
abbrev pub head_of : ParamKind → ℕ → Head
head_of kind octets = if is_tv kind then tv kind else tlv kind octets

-- the values of all fields: the plain ones as given, the reserved ones zero
abbrev pub spread : List FieldRule → List ℕ → List ℕ
spread [] values = []
spread (r ∷ rules) values = if r.reserved then 0 ∷ spread rules values else first values ∷ spread rules (others values)

-- the digits of leading fields
abbrev pub field_digits : List FieldRule → List ℕ → List Bool
field_digits rules [] = []
field_digits [] (v ∷ values) = []
field_digits (r ∷ rules) (v ∷ values) = digits r.width v ++ field_digits rules values

-- a tail of words or of text follows its count
abbrev pub count_digits : Tail → List ℕ → List Bool
count_digits Absent tail = []
count_digits Words tail = digits 16 (length tail / 2)
count_digits Text tail = digits 16 (length tail)
count_digits Bits tail = []
count_digits Data tail = []

abbrev pub tail_digits : Tail → List ℕ → List Bool
tail_digits form tail = count_digits form tail ++ digits_of_bytes tail

-- the fields and the tail of a node
unfoldable pub body_digits : Kind → List ℕ → List ℕ → List Bool
body_digits kind fields tail = field_digits (fields_of kind) (spread (fields_of kind) fields) ++ tail_digits (tail_of kind) tail

-- parameters in a row spell their digits in order
unfoldable pub forest_digits : Forest → List Bool
forest_digits none = []
forest_digits (and before kind fields tail children) =
    forest_digits before ++ (head_digits (head_of kind (head_octets kind + body_octets (Parameter kind) tail + octets children)) ++ (body_digits (Parameter kind) fields tail ++ forest_digits children))

abbrev pub message_digits : MessageTree → List Bool
message_digits m = head_digits (message m.version m.kind (message_octets m) m.id) ++ (body_digits (Message m.kind) m.fields m.tail ++ forest_digits m.children)
