-- The lines of a message, and of an open tree: one for each field in the order of the bits, reserved ones and heads too.
use Rattle.std.specs.Prelude.{ℕ, suc, ◌+◌, ◌*◌, ◌/◌, List, [], ◌∷◌, ◌++◌, length, Bool, Option, Some, None}
use Rattle.std.specs.List.{flat_map}
use Rattle.std.specs.Prelude.{codes}
use Rattle.tag_bits.specs.Digits.{digits, digits_of_bytes}
use Rattle.llrp_schema.specs.declared.kinds.Kind.{Kind}
use Rattle.llrp_schema.specs.declared.kinds.Kind.TheVariants.{Message, Parameter}
use Rattle.llrp_schema.specs.declared.kinds.Tail.{Tail}
use Rattle.llrp_schema.specs.declared.kinds.Tail.TheVariants.{Absent, Words, Text, Bits, Data}
use Rattle.llrp_schema.specs.Schema.{FieldRule, fields_of, tail_of, number_of}
use Rattle.llrp_tree.specs.Tree.{Forest, none, and, MessageTree}
use Rattle.llrp_tree.specs.Lawful.{head_octets, body_octets, octets, message_octets}
use Rattle.llrp_tree.specs.Spelling.{Head, message, tlv, tv, head_of, spread}
use Rattle.llrp_tree.specs.OpenTree.{Begun, kind_of_head}

-- what stands in a field: a number, or octets
pub data Standing : Type 0 where
  ANumber : ℕ → Standing
  Octets : List ℕ → Standing

-- A line: how many levels below the message its node is, the field's name, its bits, what stands there, and the kind whose number that is, in the type of a head. The bit at which it begins is the sum of the bits of the lines before.
pub record ExplainLine : Type 0 where
  pub level : ℕ
  pub name : List ℕ
  pub bits : ℕ
  pub standing : Standing
  pub kind : Option Kind

abbrev pub line : ℕ → List ℕ → ℕ → ℕ → ExplainLine
line level name width value = record { level = level; name = name; bits = width; standing = ANumber value; kind = None }

-- the line of the type in a head: a kind's number
abbrev pub kind_line : ℕ → List ℕ → ℕ → Kind → ExplainLine
kind_line level name width kind = record { level = level; name = name; bits = width; standing = ANumber (number_of kind); kind = Some kind }

-- the digits of a line
abbrev pub standing_digits : ℕ → Standing → List Bool
standing_digits width (ANumber value) = digits width value
standing_digits width (Octets octets) = digits_of_bytes octets

abbrev pub line_digits : ExplainLine → List Bool
line_digits l = standing_digits l.bits l.standing

unfoldable pub digits_of_lines : List ExplainLine → List Bool
digits_of_lines lines = flat_map line_digits lines

-- the bits of lines: those of a number are its width, those of octets are theirs
abbrev pub standing_bits : ℕ → Standing → ℕ
standing_bits width (ANumber value) = width
standing_bits width (Octets octets) = 8 * length octets

unfoldable pub bits_of_lines : List ExplainLine → ℕ
bits_of_lines [] = 0
bits_of_lines (l ∷ lines) = standing_bits l.bits l.standing + bits_of_lines lines

-- ---- nodes

unfoldable pub head_lines : ℕ → Head → List ExplainLine
head_lines level (message version kind count id) =
    line level (codes "reserved") 3 0 ∷ line level (codes "Version") 3 version ∷ kind_line level (codes "MessageType") 10 (Message kind) ∷ line level (codes "MessageLength") 32 count ∷ line level (codes "MessageID") 32 id ∷ []
head_lines level (tlv kind count) = line level (codes "reserved") 6 0 ∷ kind_line level (codes "ParameterType") 10 (Parameter kind) ∷ line level (codes "ParameterLength") 16 count ∷ []
head_lines level (tv kind) = line level (codes "type and value") 1 1 ∷ kind_line level (codes "ParameterType") 7 (Parameter kind) ∷ []

-- the lines of leading fields, reserved ones among them
unfoldable pub field_lines : ℕ → List FieldRule → List ℕ → List ExplainLine
field_lines level rules [] = []
field_lines level [] (v ∷ values) = []
field_lines level (r ∷ rules) (v ∷ values) = line level r.name r.width v ∷ field_lines level rules values

abbrev pub octets_line : ℕ → List ℕ → List ℕ → ExplainLine
octets_line level name octets = record { level = level; name = name; bits = 8 * length octets; standing = Octets octets; kind = None }

-- a tail, after its count if it has one
unfoldable pub tail_lines : ℕ → Tail → List ℕ → List ExplainLine
tail_lines level Absent tail = octets_line level (codes "octets") tail ∷ []
tail_lines level Words tail = line level (codes "count") 16 (length tail / 2) ∷ octets_line level (codes "words") tail ∷ []
tail_lines level Text tail = line level (codes "count") 16 (length tail) ∷ octets_line level (codes "text") tail ∷ []
tail_lines level Bits tail = octets_line level (codes "bits") tail ∷ []
tail_lines level Data tail = octets_line level (codes "octets") tail ∷ []

-- the lines of parameters in a row that are at a level
unfoldable pub forest_lines : ℕ → Forest → List ExplainLine
forest_lines level none = []
forest_lines level (and before kind fields tail children) =
    forest_lines level before
    ++ (head_lines level (head_of kind (head_octets kind + body_octets (Parameter kind) tail + octets children))
    ++ ((field_lines level (fields_of (Parameter kind)) (spread (fields_of (Parameter kind)) fields) ++ tail_lines level (tail_of (Parameter kind)) tail)
    ++ forest_lines (suc level) children))

-- the lines of a message
unfoldable pub message_lines : MessageTree → List ExplainLine
message_lines m =
    head_lines 0 (message m.version m.kind (message_octets m) m.id)
    ++ ((field_lines 0 (fields_of (Message m.kind)) (spread (fields_of (Message m.kind)) m.fields) ++ tail_lines 0 (tail_of (Message m.kind)) m.tail)
    ++ forest_lines 1 m.children)

-- ---- open trees

abbrev pub read_lines : ℕ → Tail → Option (List ℕ) → List ExplainLine
read_lines level form None = []
read_lines level form (Some octets) = tail_lines level form octets

unfoldable pub begun_lines : ℕ → Begun → List ExplainLine
begun_lines level b =
    head_lines level b.head
    ++ ((field_lines level (fields_of (kind_of_head b.head)) b.fields ++ read_lines level (tail_of (kind_of_head b.head)) b.tail)
    ++ forest_lines (suc level) b.children)

-- the lines of an open tree, the message's first
unfoldable pub open_lines : List Begun → List ExplainLine
open_lines [] = []
open_lines (b ∷ outer) = open_lines outer ++ begun_lines (length outer) b
