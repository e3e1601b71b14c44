-- Lines that are open: the whole parameters below each, the small record that is kept of each, and the octets that represent all.
use Rattle.std.specs.Prelude.{◌≡◌, ℕ, ◌+◌, ◌<◌, ◌^◌, ◌-◌, min, nat_le, ◌⊎◌, ◌==◌, ◌||◌, ◌&&◌, Bool, true, false, List, [], ◌∷◌, ◌++◌, drop, get_or, Option, Some, None}
use Rattle.std.specs.List.{AllZip}
use Rattle.tag_bits.specs.Digits.{digits_of_bytes}
use Rattle.llrp_schema.specs.declared.kinds.ParamKind.{ParamKind}
use Rattle.llrp_schema.specs.declared.kinds.Kind.{Kind}
use Rattle.llrp_schema.specs.declared.kinds.Kind.TheVariants.{Message, Parameter}
use Rattle.llrp_schema.specs.Schema.{fields_of, groups_of, tail_of}
use Rattle.llrp_schema.specs.Calls.Places.{IsPlace}
use Rattle.llrp_schema.specs.declared.kinds.Place.{Place}
use Rattle.llrp_tree.specs.declared.node.NodeFault.{NodeFault}
use Rattle.llrp_tree.specs.declared.node.NodeFault.TheVariants.{FieldCount, Value, Tail as BadTail, Misplaced, TooMany, Missing, TooDeep, TooLong}
use Rattle.llrp_tree.specs.Checks.{count_fits, values_fit, tail_fits, all_placed, none_too_many, first_failed, first_fault, first_message_fault}
use Rattle.llrp_tree.specs.Lawful.{AllLawful, levels, octets}
use Rattle.llrp_tree.specs.Calls.Lawful.{own_octets}
use Rattle.llrp_tree.specs.Spelling.{message, head_of, head_digits, body_digits, forest_digits}
use Rattle.llrp_tree.specs.Tree as tree
use Rattle.llrp_tree.specs.Tree.{Tree, trees}
use Rattle.llrp_stream.specs.Calls.Reading.{AreSeen}
use Rattle.llrp_listing.specs.LineChecks.{AreInForm, IsTailOf}
use Rattle.llrp_listing.specs.ListingRules.{lines_onto}
use Rattle.llrp_listing.specs.NodeLine.{NodeLine, number_forms}
use Rattle.llrp_listing.specs.Private.OpenLines.{Entry, entry}
use Rattle.llrp_listing.specs.OpenText.{end}
use Rattle.llrp_tree.specs.declared.TheConstants.{MAX_DEPTH, MAX_LIMIT, MAX_OCTETS}
use Rattle.llrp_listing.specs.declared.encode.close_line.Count.{Count}
use Rattle.llrp_listing.specs.declared.encode.open_lines.LineRecord.{LineRecord}

-- A line that is open: what it says, the parameters that are whole below it, and its number.
pub record OpenNode : Type 0 where
  pub line : NodeLine
  pub children : tree.Forest
  pub number : ℕ

-- an open line as the laws of listings have it
abbrev pub entry_of : OpenNode → Entry
entry_of n = entry n.line (lines_onto n.children end) n.number

abbrev pub entries : List OpenNode → List Entry
entries [] = []
entries (n ∷ outer) = entry_of n ∷ entries outer

-- ---- the tests of a line and of what is below it, in their order

-- the plain fields of a line
abbrev pub values_of : Kind → List ℕ → List ℕ
values_of (Message kind) numbers = drop 2 numbers
values_of (Parameter kind) numbers = numbers

-- a message has a known version
abbrev pub version_fits : Kind → List ℕ → Bool
version_fits (Message kind) numbers = (get_or numbers 0 0 == 1) || (get_or numbers 0 0 == 2)
version_fits (Parameter kind) numbers = true

-- the tests of the line alone
abbrev pub own_tests : NodeLine → List (Bool × NodeFault)
own_tests line =
    (count_fits (fields_of line.kind) (values_of line.kind line.numbers), FieldCount)
    ∷ (version_fits line.kind line.numbers && values_fit (fields_of line.kind) (values_of line.kind line.numbers), Value)
    ∷ (tail_fits (tail_of line.kind) (values_of line.kind line.numbers) line.tail, BadTail)
    ∷ []

-- the first of them that fails
unfoldable pub own_fault : NodeLine → Option NodeFault
own_fault line = first_failed (own_tests line)

-- and those that a child can fail, once it is whole
abbrev pub early_tests : NodeLine → List Tree → List (Bool × NodeFault)
early_tests line children =
    own_tests line
    ++ (all_placed (groups_of line.kind) children, Misplaced)
    ∷ (none_too_many (groups_of line.kind) children, TooMany)
    ∷ []

-- the first of all these that fails
unfoldable pub early_fault : NodeLine → tree.Forest → Option NodeFault
early_fault line children = first_failed (early_tests line (trees children))

-- the first of all tests of a line that comes to its close
abbrev pub kind_fault : Kind → List ℕ → List ℕ → tree.Forest → Option NodeFault
kind_fault (Message kind) numbers tail children = first_message_fault (get_or numbers 0 0) kind (drop 2 numbers) tail children
kind_fault (Parameter kind) numbers tail children = first_fault kind numbers tail children

abbrev pub node_fault : NodeLine → tree.Forest → Option NodeFault
node_fault line children = kind_fault line.kind line.numbers line.tail children

-- ---- octets

-- the octets of a line and of the whole parameters below it
abbrev pub node_octets : OpenNode → ℕ
node_octets n = own_octets n.line.kind n.line.tail + octets n.children

-- the digits of a line alone, with zeros where its length will be
unfoldable pub line_digits : Kind → List ℕ → List ℕ → List Bool
line_digits (Message kind) numbers tail = head_digits (message (get_or numbers 0 0) kind 0 (get_or numbers 1 0)) ++ body_digits (Message kind) (drop 2 numbers) tail
line_digits (Parameter kind) numbers tail = head_digits (head_of kind 0) ++ body_digits (Parameter kind) numbers tail

-- and of the whole parameters below it
abbrev pub node_digits : OpenNode → List Bool
node_digits n = line_digits n.line.kind n.line.numbers n.line.tail ++ forest_digits n.children

-- of lines each of which is below the next one, the message's the last
unfoldable pub chain_digits : List OpenNode → List Bool
chain_digits [] = []
chain_digits (n ∷ outer) = chain_digits outer ++ node_digits n

unfoldable pub chain_octets : List OpenNode → ℕ
chain_octets [] = 0
chain_octets (n ∷ outer) = chain_octets outer + node_octets n

-- some line fails a test of its own
abbrev pub HasBad : List OpenNode → Type 0
HasBad [] = ⊥
HasBad (n ∷ outer) = ((fault : NodeFault) × (own_fault n.line ≡ Some fault)) ⊎ HasBad outer

-- the message can't be closed, whatever follows
abbrev pub IsDoomed : ℕ → List OpenNode → Type 0
IsDoomed limit ns = HasBad ns ⊎ (limit < chain_octets ns)

-- the octets are those of the open lines, or they are not kept since the message can't be closed
abbrev pub AreKept : ℕ → Bool → List ℕ → List OpenNode → Type 0
AreKept limit true bytes ns = digits_of_bytes bytes ≡ chain_digits ns
AreKept limit false bytes ns = IsDoomed limit ns

-- ---- what is kept of a line

-- where counts of octets stop
abbrev pub MOST : ℕ
MOST = 2 ^ 32 - 1

-- What a line says may be said.
pub record IsSaid (line : NodeLine) : Type 0 where
  pub numbers : AreInForm (number_forms line.kind) line.numbers
  pub tail : IsTailOf (tail_of line.kind) line.tail

-- The record is that of an open line.
pub record IsHeld (held : LineRecord) (n : OpenNode) : Type 0 where
  pub kind : held.kind ≡ n.line.kind
  pub number : held.number ≡ n.number
  pub fault : held.fault ≡ early_fault n.line n.children
  pub seen : AreSeen (groups_of n.line.kind) n.children held.seen
  pub levels : held.levels ≡ levels n.children
  pub octets : held.octets ≡ min (node_octets n) MOST
  pub said : IsSaid n.line
  pub lawful : AllLawful n.children

abbrev pub AreHeld : List LineRecord → List OpenNode → Type 0
AreHeld rows ns = AllZip IsHeld rows ns

abbrev pub IsMessage : OpenNode → Type 0
IsMessage n = (kind : _) × (n.line.kind ≡ Message kind)

abbrev pub IsParameter : OpenNode → Type 0
IsParameter n = (kind : ParamKind) × (n.line.kind ≡ Parameter kind)

-- parameters' lines, and a message's last
abbrev pub IsChain : List OpenNode → Type 0
IsChain [] = Unit {0}
IsChain (n ∷ []) = IsMessage n
IsChain (n ∷ p ∷ outer) = IsParameter n × IsChain (p ∷ outer)

-- ---- a line that is closed

-- the tests of how large a node is
abbrev pub size_tests : Kind → List ℕ → tree.Forest → List (Bool × NodeFault)
size_tests (Message kind) tail children = (nat_le (own_octets (Message kind) tail + octets children) MAX_LIMIT, TooLong) ∷ []
size_tests (Parameter kind) tail children =
    (nat_le (levels children + 1) MAX_DEPTH, TooDeep)
    ∷ (nat_le (own_octets (Parameter kind) tail + octets children) MAX_OCTETS, TooLong)
    ∷ []

-- the fault once a child is of a kind that no group has
abbrev pub after_misplaced : Option NodeFault → NodeFault
after_misplaced None = Misplaced
after_misplaced (Some FieldCount) = FieldCount
after_misplaced (Some Value) = Value
after_misplaced (Some BadTail) = BadTail
after_misplaced (Some Misplaced) = Misplaced
after_misplaced (Some TooMany) = Misplaced
after_misplaced (Some Missing) = Missing
after_misplaced (Some TooDeep) = TooDeep
after_misplaced (Some TooLong) = TooLong

-- the fault once a group has too many children
abbrev pub after_too_many : Option NodeFault → NodeFault
after_too_many None = TooMany
after_too_many (Some fault) = fault

-- The counts are those of a line with these children.
pub record IsCounted (line : NodeLine) (children : tree.Forest) (count : Count) : Type 0 where
  pub fault : count.fault ≡ early_fault line children
  pub seen : AreSeen (groups_of line.kind) children count.seen

-- whatever line it is and whatever came before, the counts become so with one more child of the group at this place
abbrev pub CountsAt : Place → Option NodeFault → ℕ → Count → Type 0
CountsAt place fault seen count =
    (line : NodeLine) (child : ParamKind) (before : tree.Forest) (numbers tail : List ℕ) (children : tree.Forest)
    → IsPlace (groups_of line.kind) child place → fault ≡ early_fault line before → AreSeen (groups_of line.kind) before seen
    → IsCounted line (tree.and before child numbers tail children) count

-- the same of one more child of a kind, below a line of a kind
abbrev pub CountsChild : Kind → ParamKind → Option NodeFault → ℕ → Count → Type 0
CountsChild kind child fault seen count =
    (line : NodeLine) (before : tree.Forest) (numbers tail : List ℕ) (children : tree.Forest)
    → kind ≡ line.kind → fault ≡ early_fault line before → AreSeen (groups_of line.kind) before seen
    → IsCounted line (tree.and before child numbers tail children) count

-- the parameter of a line that is closed, last below the next line
abbrev pub with_child : ParamKind → OpenNode → OpenNode → OpenNode
with_child kind n p = record p { children = tree.and p.children kind n.line.numbers n.line.tail n.children }

-- the record of the line above becomes so with a closed parameter of this kind as its last child
abbrev pub AddsChild : ParamKind → LineRecord → LineRecord → LineRecord → Type 0
AddsChild kind parent child new =
    (n p : OpenNode) → IsHeld child n → n.line.kind ≡ Parameter kind → node_fault n.line n.children ≡ None
    → IsHeld parent p → IsHeld new (with_child kind n p)

-- ---- a line that begins

-- a line with nothing below it
abbrev pub new_node : NodeLine → ℕ → OpenNode
new_node line number = record { line = line; children = tree.none; number = number }

-- the octets of a line were put there, or it fails a test of its own
abbrev pub IsPut : Bool → NodeLine → List ℕ → Type 0
IsPut true line more = digits_of_bytes more ≡ line_digits line.kind line.numbers line.tail
IsPut false line more = (fault : NodeFault) × (own_fault line ≡ Some fault)
