-- The tests that a parameter or a message meets, in their order, each with the fault that is reported where it fails.
use Rattle.std.specs.Prelude.{ℕ, ◌+◌, ◌/◌, ◌%◌, ◌==◌, List, [], ◌∷◌, ◌++◌, length, Bool, true, false, not, ◌&&◌, ◌||◌, if◌then◌else◌, nat_le, Option, None, Some, count_by, filter}
use Rattle.std.specs.List.{list_all}
use Rattle.std.specs.Str.{is_utf8}
use Rattle.llrp_schema.specs.declared.kinds.ParamKind.{ParamKind}
use Rattle.llrp_schema.specs.declared.kinds.MsgKind.{MsgKind}
use Rattle.llrp_schema.specs.declared.kinds.Kind.{Kind}
use Rattle.llrp_schema.specs.declared.kinds.Kind.TheVariants.{Message, Parameter}
use Rattle.llrp_schema.specs.declared.kinds.Tail.{Tail}
use Rattle.llrp_schema.specs.declared.kinds.Tail.TheVariants.{Absent, Words, Text, Bits, Data}
use Rattle.llrp_schema.specs.Schema.{FieldRule, GroupRule, fields_of, groups_of, tail_of}
use Rattle.llrp_tree.specs.declared.TheConstants.{MAX_DEPTH, MAX_LIMIT, MAX_OCTETS}
use Rattle.llrp_tree.specs.declared.node.NodeFault.{NodeFault}
use Rattle.llrp_tree.specs.declared.node.NodeFault.TheVariants.{FieldCount, Value, Tail as BadTail, Misplaced, TooMany, Missing, TooDeep, TooLong}
use Rattle.llrp_tree.specs.Tree.{Forest, Tree, trees}
use Rattle.llrp_tree.specs.Lawful.{levels, head_octets, body_octets, octets, first, is_member, has_place, at_most}

abbrev pub count_fits : List FieldRule → List ℕ → Bool
count_fits rules values = length values == length (filter (λ r. not r.reserved) rules)

-- each value is within the range of its plain field
abbrev pub values_fit : List FieldRule → List ℕ → Bool
values_fit [] values = true
values_fit (r ∷ rules) [] = if r.reserved then values_fit rules [] else false
values_fit (r ∷ rules) (v ∷ values) = if r.reserved then values_fit rules (v ∷ values) else (nat_le v r.greatest && values_fit rules values)

abbrev pub tail_fits : Tail → List ℕ → List ℕ → Bool
tail_fits Absent values tail = length tail == 0
tail_fits Words values tail = (length tail % 2 == 0) && nat_le (length tail / 2) 65535
tail_fits Text values tail = nat_le (length tail) 65535 && is_utf8 tail
tail_fits Bits values tail = length tail == (first values + 7) / 8
tail_fits Data values tail = true

abbrev pub members : GroupRule → List Tree → ℕ
members g ts = count_by (λ t. is_member g t.kind) ts

unfoldable pub all_placed : List GroupRule → List Tree → Bool
all_placed gs ts = list_all (λ t. has_place gs t.kind) ts

unfoldable pub none_too_many : List GroupRule → List Tree → Bool
none_too_many gs ts = list_all (λ g. at_most g.most (members g ts)) gs

unfoldable pub none_missing : List GroupRule → List Tree → Bool
none_missing gs ts = list_all (λ g. nat_le g.least (members g ts)) gs

-- the fault beside the first test that fails
abbrev pub first_failed : List (Bool × NodeFault) → Option NodeFault
first_failed [] = None
first_failed (t ∷ ts) = if t.0 then first_failed ts else Some t.1

-- the tests by the table of a kind
unfoldable pub table_tests : Kind → Bool → List ℕ → List ℕ → List Tree → List (Bool × NodeFault)
table_tests kind version values tail children =
    (count_fits (fields_of kind) values, FieldCount)
    ∷ (version && values_fit (fields_of kind) values, Value)
    ∷ (tail_fits (tail_of kind) values tail, BadTail)
    ∷ (all_placed (groups_of kind) children, Misplaced)
    ∷ (none_too_many (groups_of kind) children, TooMany)
    ∷ (none_missing (groups_of kind) children, Missing)
    ∷ []

-- the first fault of these parts of a parameter, whose children are lawful
unfoldable pub first_fault : ParamKind → List ℕ → List ℕ → Forest → Option NodeFault
first_fault kind values tail children =
    first_failed (table_tests (Parameter kind) true values tail (trees children)
    ++ (nat_le (levels children + 1) MAX_DEPTH, TooDeep)
    ∷ (nat_le (head_octets kind + body_octets (Parameter kind) tail + octets children) MAX_OCTETS, TooLong)
    ∷ [])

-- the first fault of these parts of a message, whose children are lawful
unfoldable pub first_message_fault : ℕ → MsgKind → List ℕ → List ℕ → Forest → Option NodeFault
first_message_fault version kind values tail children =
    first_failed (table_tests (Message kind) ((version == 1) || (version == 2)) values tail (trees children)
    ++ (nat_le (10 + body_octets (Message kind) tail + octets children) MAX_LIMIT, TooLong)
    ∷ [])
