-- What is said of a fault after the header: one sentence for each reason, by the part that fails, with its numbers.
use Rattle.std.specs.Prelude.{ℕ, ◌+◌, ◌*◌, ◌/◌, List, [], ◌∷◌, ◌++◌, length, Bool, if◌then◌else◌, nat_le, Option, Some, None, codes, decimal}
use Rattle.llrp_schema.specs.declared.kinds.ParamKind.{ParamKind}
use Rattle.llrp_schema.specs.declared.kinds.Kind.{Kind}
use Rattle.llrp_schema.specs.declared.kinds.Kind.TheVariants.{Parameter}
use Rattle.llrp_schema.specs.declared.kinds.Tail.{Tail}
use Rattle.llrp_schema.specs.declared.kinds.Tail.TheVariants.{Absent, Words, Text, Bits, Data}
use Rattle.llrp_schema.specs.Schema.{FieldRule, GroupRule, name_of, set_of_kind}
use Rattle.llrp_tree.specs.declared.TheConstants.{MAX_DEPTH}
use Rattle.llrp_tree.specs.declared.fault.Reason.{Reason}
use Rattle.llrp_tree.specs.declared.fault.Reason.TheVariants.{Reserved, Short, Count, Misplaced, TooMany, TooDeep, ParamLength}
use Rattle.llrp_tree.specs.Tree.{Forest}
use Rattle.llrp_tree.specs.Lawful.{count, count_octets, first}
use Rattle.llrp_tree.specs.OpenTree.{Begun, kind_of_head, form, groups, set, covers}
use Rattle.llrp_tree.specs.FirstFault.{number, tv_kind, tlv_kind, NextPart, ReadField, ReadTail, Close, NoChild, BeginTv, BeginTlv, next_part}
use Rattle.llrp_explain.specs.Calls.FaultLines.{refused_lines}
use Rattle.llrp_explain.specs.Calls.HeaderFaults.{set_words, fault_line, refused_text}
use Rattle.llrp_explain.specs.Calls.FaultText.{past_end, not_zero, above}
use Rattle.llrp_explain.specs.Calls.KindTexts.{choice, names}

-- ---- a field

-- a field of a node that stops at a bit, and the number that stands there
unfoldable pub field_sentence : FieldRule → Kind → (stop at : ℕ) → Reason → (value : ℕ) → List ℕ
field_sentence rule kind stop at Short value = past_end (codes "Short: " ++ (rule.name ++ codes " ends")) (at + rule.width) kind stop
field_sentence rule kind stop at Reserved value = not_zero rule.width value
field_sentence rule kind stop at _ value = above rule.name value rule.greatest

-- ---- a tail

-- what a tail counts: words, octets of text, or bits, which the field before it counts
abbrev pub counted : Tail → (fields : List ℕ) → (rest : List Bool) → ℕ
counted Absent fields rest = first fields
counted Words fields rest = number rest 0 16
counted Text fields rest = number rest 0 16
counted Bits fields rest = first fields
counted Data fields rest = first fields

abbrev pub counted_words : Tail → ℕ → List ℕ
counted_words Absent n = decimal n ++ codes " bits end"
counted_words Words n = decimal n ++ codes " words end"
counted_words Text n = decimal n ++ codes " octets of text end"
counted_words Bits n = decimal n ++ codes " bits end"
counted_words Data n = decimal n ++ codes " bits end"

abbrev pub counted_octets : Tail → ℕ → ℕ
counted_octets Absent n = (n + 7) / 8
counted_octets Words n = 2 * n
counted_octets Text n = n
counted_octets Bits n = (n + 7) / 8
counted_octets Data n = (n + 7) / 8

unfoldable pub tail_sentence : Tail → Kind → (stop at : ℕ) → Reason → (n : ℕ) → List ℕ
tail_sentence form kind stop at Short n = past_end (codes "Short: the count ends") (at + 16) kind stop
tail_sentence form kind stop at Count n = past_end (codes "Count: " ++ counted_words form n) (at + 8 * (count_octets form + counted_octets form n)) kind stop
tail_sentence form kind stop at _ n = codes "Utf8: no character begins here"

-- ---- the end of a node

-- the parameters of which one must be there and is not
unfoldable pub first_missing : List GroupRule → Forest → List ℕ
first_missing [] children = []
first_missing (g ∷ groups) children = if nat_le g.least (count g children) then first_missing groups children else choice (names g.members)

abbrev pub missing_sentence : Kind → (missing : List ℕ) → List ℕ
missing_sentence kind missing = codes "Missing: " ++ (name_of kind ++ (codes " ends without " ++ missing))

abbrev pub extra_sentence : Kind → (stop : ℕ) → List ℕ
extra_sentence kind stop = codes "Extra: " ++ (name_of kind ++ (codes " has no parameters and ends at bit " ++ decimal stop))

-- ---- a child

abbrev pub child_name : Option ParamKind → List ℕ
child_name None = []
child_name (Some kind) = name_of (Parameter kind)

-- a child whose kind fails; its type has this number, and it is at this level
unfoldable pub kind_sentence : Option ParamKind → (type level : ℕ) → (parent : Kind) → Reason → List ℕ
kind_sentence kind type level parent Misplaced = codes "Misplaced: " ++ (child_name kind ++ (codes " is no parameter of " ++ name_of parent))
kind_sentence kind type level parent TooMany = codes "TooMany: " ++ (name_of parent ++ (codes " has no place for one more " ++ child_name kind))
kind_sentence kind type level parent TooDeep = codes "TooDeep: " ++ (child_name kind ++ (codes " is at level " ++ (decimal level ++ (codes ", the deepest is " ++ decimal MAX_DEPTH))))
kind_sentence kind type level parent _ = codes "ParamType: " ++ (decimal type ++ (codes " is of no parameter of " ++ set_words (set_of_kind parent)))

-- a child of this many octets that begins at a bit
unfoldable pub length_sentence : (at octets : ℕ) → Kind → (stop : ℕ) → List ℕ
length_sentence at octets kind stop = if nat_le 4 octets then past_end (codes "ParamLength: " ++ (decimal octets ++ (codes " octets from bit " ++ (decimal at ++ codes " end")))) (at + 8 * octets) kind stop else codes "ParamLength: " ++ (decimal octets ++ codes " octets, at least 4")

-- the head of a child with type, length and value, by its numbers
unfoldable pub tlv_sentence : Option ParamKind → (parent : Kind) → (stop at level : ℕ) → Reason → (reserved type octets : ℕ) → List ℕ
tlv_sentence kind parent stop at level Short reserved type octets = past_end (codes "Short: the head of a parameter ends") (at + 32) parent stop
tlv_sentence kind parent stop at level Reserved reserved type octets = not_zero 6 reserved
tlv_sentence kind parent stop at level ParamLength reserved type octets = length_sentence at octets parent stop
tlv_sentence kind parent stop at level reason reserved type octets = kind_sentence kind type level parent reason

-- ---- what comes next after an open tree

abbrev pub part_sentence : NextPart → Begun → (at level : ℕ) → Reason → (rest : List Bool) → List ℕ
part_sentence (ReadField rule) b at level reason rest = field_sentence rule (kind_of_head b.head) b.stop at reason (number rest 0 rule.width)
part_sentence ReadTail b at level reason rest = tail_sentence (form b) (kind_of_head b.head) b.stop at reason (counted (form b) b.fields rest)
part_sentence Close b at level reason rest = missing_sentence (kind_of_head b.head) (first_missing (groups b) b.children)
part_sentence NoChild b at level reason rest = extra_sentence (kind_of_head b.head) b.stop
part_sentence BeginTv b at level reason rest = kind_sentence (tv_kind (set b) rest) (number rest 1 7) level (kind_of_head b.head) reason
part_sentence BeginTlv b at level reason rest = tlv_sentence (tlv_kind (set b) rest) (kind_of_head b.head) b.stop at level reason (number rest 0 6) (number rest 6 10) (number rest 16 16)

-- The lines of what is refused after an open tree, and the line of its fault; `rest` are the digits after the tree.
unfoldable pub refusal_text : List Begun → (bit : ℕ) → Reason → (rest : List Bool) → List ℕ
refusal_text [] bit reason rest = []
refusal_text (b ∷ outer) bit reason rest =
    let at = length (covers (b ∷ outer)) in
    refused_text at (refused_lines (b ∷ outer) reason rest) ++ fault_line bit (part_sentence (next_part b at rest) b at (length (b ∷ outer)) reason rest)
