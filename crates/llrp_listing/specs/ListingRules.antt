-- The rules of listings: what lines say, when they are refused by themselves, and when a line can't be closed.
use Rattle.std.specs.Prelude.{ℕ, nat_lt, if◌then◌else◌, List, [], ◌∷◌, drop, get_or, Option, Some, None}
use Rattle.llrp_schema.specs.declared.kinds.MsgKind.{MsgKind}
use Rattle.llrp_schema.specs.declared.kinds.Kind.{Kind}
use Rattle.llrp_schema.specs.declared.kinds.Kind.TheVariants.{Message, Parameter}
use Rattle.llrp_schema.specs.declared.kinds.KindSet.{KindSet}
use Rattle.llrp_tree.specs.declared.node.NodeFault.{NodeFault}
use Rattle.llrp_tree.specs.Tree as tree
use Rattle.llrp_tree.specs.Tree.{MessageTree}
use Rattle.llrp_tree.specs.Lawful.{message_octets}
use Rattle.llrp_tree.specs.Checks.{first_fault, first_message_fault}
use Rattle.llrp_listing.specs.declared.outcome.Refusal.{Refusal}
use Rattle.llrp_listing.specs.declared.outcome.Refusal.TheVariants.{Node, OverLimit}
use Rattle.llrp_listing.specs.FirstRefusal.{Rules}
use Rattle.llrp_listing.specs.LineChecks.{SaysLine, RefusesLineItself}
use Rattle.llrp_listing.specs.Lines.{TextLine}
use Rattle.llrp_listing.specs.NodeLine.{NodeLine, message_line, parameter_line}
use Rattle.llrp_listing.specs.OpenText.{Outline, end, node}

-- ---- lines with lines below them, and messages with parameters

-- one parameter more in a row
abbrev pub onto : tree.Forest → Kind → List ℕ → List ℕ → tree.Forest → tree.Forest
onto before (Parameter kind) fields tail children = tree.and before kind fields tail children
onto before (Message kind) fields tail children = before

-- the parameters of lines in a row, after others
abbrev pub parameters_onto : tree.Forest → Outline NodeLine → tree.Forest
parameters_onto before end = before
parameters_onto before (node line below after) = parameters_onto (onto before line.kind line.numbers line.tail (parameters_onto tree.none below)) after

-- the parameters of lines in a row
abbrev pub parameters_of : Outline NodeLine → tree.Forest
parameters_of lines = parameters_onto tree.none lines

-- the message of a line, and of those below it
abbrev pub message_of : MsgKind → List ℕ → List ℕ → Outline NodeLine → MessageTree
message_of kind numbers tail below = record { version = get_or numbers 0 0; id = get_or numbers 1 0; kind = kind; fields = drop 2 numbers; tail = tail; children = parameters_of below }

-- the lines of parameters in a row, before others
abbrev pub lines_onto : tree.Forest → Outline NodeLine → Outline NodeLine
lines_onto tree.none after = after
lines_onto (tree.and before kind fields tail children) after = lines_onto before (node (parameter_line kind fields tail) (lines_onto children end) after)

-- the lines of messages in a row
abbrev pub row : List MessageTree → Outline NodeLine
row [] = end
row (m ∷ ms) = node (message_line m) (lines_onto m.children end) (row ms)

-- ---- closing

-- why a parameter is refused, if it has a fault
abbrev pub node_refusal : Option NodeFault → Option Refusal
node_refusal None = None
node_refusal (Some fault) = Some (Node fault)

-- why a message is refused: for its first fault, or since it is longer than the limit
abbrev pub message_refusal : ℕ → MessageTree → Option NodeFault → Option Refusal
message_refusal limit m None = if nat_lt limit (message_octets m) then Some OverLimit else None
message_refusal limit m (Some fault) = Some (Node fault)

-- why a line can't be closed over those below it
abbrev pub kind_closing : ℕ → Kind → List ℕ → List ℕ → Outline NodeLine → Option Refusal
kind_closing limit (Parameter kind) numbers tail below = node_refusal (first_fault kind numbers tail (parameters_of below))
kind_closing limit (Message kind) numbers tail below =
    let m = message_of kind numbers tail below in message_refusal limit m (first_message_fault m.version m.kind m.fields m.tail m.children)

abbrev pub closing : ℕ → NodeLine → Outline NodeLine → Option Refusal
closing limit line below = kind_closing limit line.kind line.numbers line.tail below

-- the rules of listings of messages of a set of kinds, of at most this many octets
abbrev pub rules_for : KindSet → ℕ → Rules NodeLine TextLine Refusal
rules_for p limit = record { Says = SaysLine p; Refuses = RefusesLineItself p; closing = closing limit }
