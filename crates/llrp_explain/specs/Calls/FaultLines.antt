-- The lines of a frame that has a fault: those of the open tree of which FirstFault speaks, and after them those of the part that is refused, up to the field that fails.
use Rattle.std.specs.Prelude.{◌≡◌, ◌⊎◌, ℕ, suc, ◌+◌, List, [], ◌∷◌, length, drop, Bool, Some, codes}
use Rattle.tag_bits.specs.Digits.{digits_of_bytes}
use Rattle.llrp_schema.specs.declared.kinds.KindSet.{KindSet}
use Rattle.llrp_schema.specs.declared.kinds.Tail.{Tail}
use Rattle.llrp_schema.specs.declared.kinds.Tail.TheVariants.{Words, Text}
use Rattle.llrp_schema.specs.Schema.{FieldRule}
use Rattle.llrp_tree.specs.declared.fault.Reason.{Reason}
use Rattle.llrp_tree.specs.declared.fault.Reason.TheVariants.{Reserved, Version, MessageType, MessageLength, Short, Count, ParamLength}
use Rattle.llrp_tree.specs.OpenTree.{Begun, form, covers}
use Rattle.llrp_tree.specs.FirstFault.{number, first_failing, header_checks_in, next_fault, NextPart, ReadField, ReadTail, Close, NoChild, BeginTv, BeginTlv, next_part}
use Rattle.llrp_tree.specs.Calls.Standing.{IsAt}
use Rattle.llrp_explain.specs.Calls.ExplainLines.{ExplainLine, line, open_lines}

-- A field by its name and its bits.
pub record NamedBits : Type 0 where
  pub name : List ℕ
  pub bits : ℕ

abbrev pub named : List ℕ → ℕ → NamedBits
named name bits = record { name = name; bits = bits }

-- the lines of such fields, which stand in the digits from a place on
unfoldable pub taken_lines : ℕ → List NamedBits → (place : ℕ) → List Bool → List ExplainLine
taken_lines level [] place rest = []
taken_lines level (f ∷ fields) place rest = line level f.name f.bits (number rest place f.bits) ∷ taken_lines level fields (place + f.bits) rest

-- ---- what is read of the part that is refused: its fields up to the one that fails

-- of a header
unfoldable pub header_fields : Reason → List NamedBits
header_fields Reserved = named (codes "reserved") 3 ∷ []
header_fields Version = named (codes "reserved") 3 ∷ named (codes "Version") 3 ∷ []
header_fields MessageType = named (codes "reserved") 3 ∷ named (codes "Version") 3 ∷ named (codes "MessageType") 10 ∷ []
header_fields MessageLength = named (codes "reserved") 3 ∷ named (codes "Version") 3 ∷ named (codes "MessageType") 10 ∷ named (codes "MessageLength") 32 ∷ []
header_fields _ = []

-- of a field: nothing where it ends after its node
unfoldable pub field_fields : Reason → FieldRule → List NamedBits
field_fields Short rule = []
field_fields _ rule = named rule.name rule.width ∷ []

-- of a tail: its count, where it counts too many words or octets
unfoldable pub count_fields : Reason → Tail → List NamedBits
count_fields Count Words = named (codes "count") 16 ∷ []
count_fields Count Text = named (codes "count") 16 ∷ []
count_fields _ _ = []

-- of the head of a child with type and value
abbrev pub tv_fields : List NamedBits
tv_fields = named (codes "type and value") 1 ∷ named (codes "ParameterType") 7 ∷ []

-- of the head of a child with type, length and value: nothing where it ends after its parent
unfoldable pub tlv_fields : Reason → List NamedBits
tlv_fields Short = []
tlv_fields Reserved = named (codes "reserved") 6 ∷ []
tlv_fields ParamLength = named (codes "reserved") 6 ∷ named (codes "ParameterType") 10 ∷ named (codes "ParameterLength") 16 ∷ []
tlv_fields _ = named (codes "reserved") 6 ∷ named (codes "ParameterType") 10 ∷ []

abbrev pub part_fields : NextPart → Reason → Begun → List NamedBits
part_fields (ReadField rule) reason b = field_fields reason rule
part_fields ReadTail reason b = count_fields reason (form b)
part_fields Close reason b = []
part_fields NoChild reason b = []
part_fields BeginTv reason b = tv_fields
part_fields BeginTlv reason b = tlv_fields reason

-- a child is one level below its parent
abbrev pub part_level : NextPart → ℕ → ℕ
part_level BeginTv level = suc level
part_level BeginTlv level = suc level
part_level _ level = level

-- The lines of the part that comes next after an open tree; `rest` are the digits after the tree. Without a tree it is the header.
unfoldable pub refused_lines : List Begun → Reason → List Bool → List ExplainLine
refused_lines [] reason rest = taken_lines 0 (header_fields reason) 0 rest
refused_lines (b ∷ outer) reason rest =
    let next = next_part b (length (covers (b ∷ outer))) rest in
    taken_lines (part_level next (length outer)) (part_fields next reason b) 0 rest

-- ---- a frame with a fault

-- The open tree covers the frame's digits up to this bit, and its next checks fail first so; of a fault of the header there is no tree.
abbrev pub IsFaultTree : KindSet → (limit : ℕ) → (frame : List ℕ) → (bit : ℕ) → Reason → (tree : List Begun) → (at : ℕ) → Type 0
IsFaultTree p limit frame bit reason tree at =
    ((tree ≡ []) × (at ≡ 0) × (first_failing (header_checks_in p limit (digits_of_bytes frame)) ≡ Some (bit, reason)))
    ⊎ (IsAt (digits_of_bytes frame) tree at × (next_fault tree (drop at (digits_of_bytes frame)) ≡ Some (bit, reason)))

-- These are the lines of a frame that has this fault.
pub record ExplainsFault (p : KindSet) (limit : ℕ) (frame : List ℕ) (bit : ℕ) (reason : Reason) (lines refused : List ExplainLine) : Type 0 where
  pub tree : List Begun
  pub at : ℕ
  pub is : IsFaultTree p limit frame bit reason tree at
  pub lines_are : lines ≡ open_lines tree
  pub refused_are : refused ≡ refused_lines tree reason (drop at (digits_of_bytes frame))
