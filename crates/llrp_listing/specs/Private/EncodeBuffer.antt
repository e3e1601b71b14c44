-- What represents open lines, and what the steps on them promise.
use Rattle.std.specs.Prelude.{◌≡◌, ℕ, ◌+◌, ◌-◌, ◌/◌, ◌%◌, ◌<◌, ◌≤◌, Bool, nat_le, not, ◌&&◌, if◌then◌else◌, List, [], ◌∷◌, ◌++◌, length, take, drop, reverse, true, false, Some, None}
use Rattle.llrp_schema.specs.declared.kinds.ParamKind.{ParamKind}
use Rattle.llrp_schema.specs.declared.kinds.Kind.TheVariants.{Parameter}
use Rattle.llrp_tree.specs.Lawful.{AreOctets}
use Rattle.llrp_tree.specs.Tree.{MessageTree}
use Rattle.llrp_listing.specs.Private.Encoder.{Appended}
use Rattle.llrp_tree.specs.declared.TheConstants.{MAX_DEPTH}
use Rattle.llrp_listing.specs.LineChecks.{IsOpenLevel}
use Rattle.llrp_listing.specs.NodeLine.{NodeLine}
use Rattle.llrp_listing.specs.ListingRules.{closing, lines_onto}
use Rattle.llrp_listing.specs.Private.OpenLines.{AllClosed, Begins, Closed, ClosingFails}
use Rattle.llrp_listing.specs.OpenText.{end}
use Rattle.llrp_listing.specs.declared.encode.open_lines.LineRecord.{LineRecord}
use Rattle.llrp_listing.specs.declared.encode.open_lines.OpenLines.{OpenLines}
use Rattle.llrp_listing.specs.declared.encode.open_lines.ValueRecord.{ValueRecord}
use Rattle.llrp_listing.specs.declared.encode.buffer.Refused.{Refused}
use Rattle.llrp_listing.specs.declared.encode.buffer.EncodeBuffer.{EncodeBuffer}
use Rattle.llrp_listing.specs.Private.OpenNodes.{AreHeld, AreKept, IsChain, IsHeld, IsPut, OpenNode, entries, new_node, node_fault, with_child}

-- the record of an open line with nothing below it, which passes all tests of its own
abbrev pub value_record : ValueRecord → LineRecord
value_record v = record { kind = Parameter v.kind; number = v.number; fault = None; seen = 0; levels = 0; octets = v.octets }

-- such a line, if there is one, before the others
abbrev pub with_value : Bool → ValueRecord → List LineRecord → List LineRecord
with_value false v rows = rows
with_value true v rows = value_record v ∷ rows

-- the records of the open lines, the innermost first
abbrev pub inner : OpenLines → List LineRecord
inner rows = with_value rows.ends_in_value rows.value (reverse rows.items.items)

-- how many of them have a row, and so the level of a line that comes after a value, or below a line that is none
abbrev pub row_count : OpenLines → ℕ
row_count rows = length rows.items.items

-- These lines are open: their octets follow those of closed messages, and end at a place, where others begin.
pub record Holds (writer : EncodeBuffer) (at : ℕ) (out more : List ℕ) (ns : List OpenNode) : Type 0 where
  pub bytes : List ℕ
  pub room : writer.room.items ≡ out ++ (bytes ++ more)
  pub from : writer.from ≡ length out
  pub ends : at ≡ length out + length bytes
  pub octets : AreOctets bytes
  pub rows : AreHeld (inner writer.rows) ns
  pub chain : IsChain ns
  pub few : length ns ≤ MAX_DEPTH + 1
  pub kept : AreKept writer.limit writer.kept bytes ns

-- some lines are open
abbrev pub HoldsSome : EncodeBuffer → ℕ → Type 0
HoldsSome writer at = (out more : List ℕ) × (ns : List OpenNode) × Holds writer at out more ns

-- The octets of closed messages are at the front.
pub record Front (writer : EncodeBuffer) (out : List ℕ) : Type 0 where
  pub back : List ℕ
  pub room : writer.room.items ≡ out ++ back
  pub from : writer.from ≡ length out

-- the octets of closed messages stay at the front
abbrev pub KeepsFront : EncodeBuffer → EncodeBuffer → ℕ → Type 0
KeepsFront old new at = (out more : List ℕ) (ns : List OpenNode) → Holds old at out more ns → Front new out

-- this many are open
abbrev pub HoldsAbove : EncodeBuffer → ℕ → ℕ → Type 0
HoldsAbove writer at depth = (out more : List ℕ) × (ns : List OpenNode) × Holds writer at out more ns × (depth < length ns)

-- a number of 16 bits over two octets
abbrev pub with_two : ℕ → ℕ → List ℕ → List ℕ
with_two at number room = take at room ++ ((number / 256) ∷ (number % 256) ∷ drop (at + 2) room)

-- the length of a parameter whose octets end at a place
abbrev pub settled : Bool → Bool → ℕ → ℕ → List ℕ → List ℕ
settled kept tv at octets room = if kept && not tv then with_two (at - octets + 2) octets room else room

-- The innermost line was closed.
abbrev pub ClosesOne : EncodeBuffer → EncodeBuffer → ℕ → Type 0
ClosesOne old new at = (out more : List ℕ) (n p : OpenNode) (outer : List OpenNode) (kind : ParamKind) → Holds old at out more (n ∷ p ∷ outer) → n.line.kind ≡ Parameter kind
    → (node_fault n.line n.children ≡ None) × Holds new at out more (with_child kind n p ∷ outer)

-- The innermost line can't be closed.
abbrev pub FailsOne : EncodeBuffer → ℕ → Refused → Type 0
FailsOne old at e = (out more : List ℕ) (n : OpenNode) (outer : List OpenNode) (kind : ParamKind) → Holds old at out more (n ∷ outer) → n.line.kind ≡ Parameter kind
    → (e.number ≡ n.number) × ((limit : ℕ) → closing limit n.line (lines_onto n.children end) ≡ Some e.reason)

-- Lines were closed until this many are open.
pub record ClosedTo (new : EncodeBuffer) (at depth : ℕ) (out more : List ℕ) (ns : List OpenNode) : Type 0 where
  pub left : List OpenNode
  pub holds : Holds new at out more left
  pub closed : Closed (entries ns) (entries left)
  pub are : depth ≤ length ns → length left ≡ depth

-- All lines were closed, and with them these messages.
pub record ClosedAll (limit : ℕ) (new : EncodeBuffer) (at : ℕ) (out more : List ℕ) (ns : List OpenNode) : Type 0 where
  pub now : List ℕ
  pub messages : List MessageTree
  pub holds : Holds new at now more []
  pub closed : AllClosed limit (entries ns) messages
  pub appended : Appended limit messages out now

-- a line that was reached can't be closed
abbrev pub Fails : ℕ → ℕ → List OpenNode → Refused → Type 0
Fails limit depth ns e = ClosingFails limit depth (entries ns) e.number e.reason

-- So far lines were closed, and this many at least are open.
pub record ClosedSoFar (new : EncodeBuffer) (at depth : ℕ) (out more : List ℕ) (ns : List OpenNode) : Type 0 where
  pub left : List OpenNode
  pub holds : Holds new at out more left
  pub closed : Closed (entries ns) (entries left)
  pub are : depth ≤ length ns → depth ≤ length left

-- the message's line alone is open
abbrev pub HoldsMessage : EncodeBuffer → ℕ → Type 0
HoldsMessage writer at = (out more : List ℕ) × (n : OpenNode) × Holds writer at out more (n ∷ [])

-- the message was closed
abbrev pub ClosesMessage : EncodeBuffer → EncodeBuffer → ℕ → Type 0
ClosesMessage old new at = (out more : List ℕ) (n : OpenNode) → Holds old at out more (n ∷ []) → ClosedAll old.limit new at out more (n ∷ [])

-- the message can't be closed
abbrev pub FailsMessage : EncodeBuffer → ℕ → Refused → Type 0
FailsMessage old at e = (out more : List ℕ) (n : OpenNode) → Holds old at out more (n ∷ []) → Fails old.limit 0 (n ∷ []) e

-- a number of 32 bits over four octets
abbrev pub with_four : ℕ → ℕ → List ℕ → List ℕ
with_four at number room = with_two (at + 2) (number % 65536) (with_two at (number / 65536) room)

-- only some first octets are left, unless all are kept
abbrev pub cut_to : Bool → ℕ → List ℕ → List ℕ
cut_to kept from room = if kept then room else take from room

-- the next line can begin: where it is, and its octets
pub record CanBegin (held : LineRecord) (put : Bool) (more : List ℕ) (line : NodeLine) (number : ℕ) : Type 0 where
  pub is : IsHeld held (new_node line number)
  pub octets : AreOctets more
  pub put_is : IsPut put line more

-- a line is open
abbrev pub BeginsLine : EncodeBuffer → EncodeBuffer → LineRecord → Bool → Type 0
BeginsLine old new held put = (at : ℕ) (out more : List ℕ) (ns : List OpenNode) (line : NodeLine) (number : ℕ) → Holds old at out more ns → CanBegin held put more line number → IsChain (new_node line number ∷ ns) → length ns ≤ MAX_DEPTH
    → Holds new (length new.room.items) out [] (new_node line number ∷ ns)

-- A line is open, and the messages that it closed are appended.
pub record OpensLine (limit : ℕ) (new : EncodeBuffer) (out : List ℕ) (ns : List OpenNode) (level : ℕ) (line : NodeLine) (number : ℕ) : Type 0 where
  pub now : List ℕ
  pub outer : List OpenNode
  pub messages : List MessageTree
  pub holds : Holds new (length new.room.items) now [] (new_node line number ∷ outer)
  pub begins : Begins limit (entries ns) (entries (new_node line number ∷ outer)) level line number messages
  pub appended : Appended limit messages out now

-- all octets are kept: those before, those of the line, and they are not too many
abbrev pub all_kept : Bool → Bool → ℕ → ℕ → Bool
all_kept kept put octets limit = kept && (put && nat_le octets limit)

-- the line can be where this many lines are open
pub record CanStandAt (level depth : ℕ) (line : NodeLine) : Type 0 where
  pub placed : IsOpenLevel level line.kind
  pub within : level ≤ depth
  pub deep : level ≤ MAX_DEPTH

-- this many lines are open, and that is a level of a line
abbrev pub HoldsDeep : EncodeBuffer → ℕ → ℕ → Type 0
HoldsDeep writer at level = (out more : List ℕ) × (ns : List OpenNode) × Holds writer at out more ns × (level ≤ length ns) × (level ≤ MAX_DEPTH)

-- the line is open, once those of its level or deeper are closed
abbrev pub Opens : EncodeBuffer → EncodeBuffer → LineRecord → Bool → ℕ → ℕ → Type 0
Opens old new held put at level = (out more : List ℕ) (ns : List OpenNode) (line : NodeLine) (number : ℕ) → Holds old at out more ns → CanBegin held put more line number → CanStandAt level (length ns) line → OpensLine old.limit new out ns level line number
