-- A whole line that was read is taken.
use Rattle.std.specs.Prelude.{ℕ, ◌≤◌, List, [], ◌∷◌, length}
use Rattle.llrp_tree.specs.declared.TheConstants.{MAX_DEPTH}
use Rattle.llrp_schema.specs.declared.kinds.Kind.TheVariants as kinds
use Rattle.llrp_listing.specs.declared.parse_line.Line.{Line}
use Rattle.llrp_listing.specs.declared.parse_line.Line.TheVariants as line
use Rattle.llrp_listing.specs.Private.LineReading.{message_node, parameter_node}
use Rattle.llrp_listing.specs.NodeLine.{NodeLine, parameter_line}
use Rattle.llrp_listing.specs.declared.encode.take_line.LineContents.{LineContents}
use Rattle.llrp_listing.specs.declared.encode.take_line.LineContents.TheVariants.{Message, Parameter, Value}
use Rattle.llrp_listing.specs.declared.encode.take_line.TakeErr.{TakeErr}
use Rattle.llrp_listing.specs.declared.encode.take_line.TakeErr.TheVariants.{Refuses, Memory}
use Rattle.llrp_listing.specs.declared.encode.buffer.EncodeBuffer.{EncodeBuffer}
use Rattle.llrp_listing.specs.Private.EncodeBuffer.{CanStandAt, Fails, Front, Holds, OpensLine}
use Rattle.llrp_listing.specs.Private.OpenNodes.{OpenNode}

-- the level of what a line says, and what it says
abbrev pub said_level : LineContents → ℕ
said_level (Message kind version id fields tail) = 0
said_level (Parameter level kind fields tail) = level
said_level (Value level kind value) = level

abbrev pub said_node : LineContents → NodeLine
said_node (Message kind version id fields tail) = record { kind = kinds.Message kind; numbers = version ∷ id ∷ fields.now; tail = tail.now }
said_node (Parameter level kind fields tail) = parameter_line kind fields.now tail.now
said_node (Value level kind value) = parameter_line kind (value ∷ []) []

-- the level of a line that is kept, and what it says
abbrev pub line_level : Line → ℕ
line_level (line.Message l) = 0
line_level (line.Parameter l) = l.level

abbrev pub line_node : Line → NodeLine
line_node (line.Message l) = message_node l
line_node (line.Parameter l) = parameter_node l

-- These lines are open, these octets of closed messages are before theirs, and nothing follows them.
abbrev pub Rests : EncodeBuffer → List ℕ → List OpenNode → Type 0
Rests writer out ns = Holds writer (length writer.room.items) out [] ns

-- this many lines are open, and that is a level of a line
abbrev pub RestsDeep : EncodeBuffer → ℕ → Type 0
RestsDeep writer level = (out : List ℕ) × (ns : List OpenNode) × Rests writer out ns × (level ≤ length ns) × (level ≤ MAX_DEPTH)

-- the line is open, and the messages that it closed are appended
abbrev pub Takes : EncodeBuffer → EncodeBuffer → ℕ → NodeLine → ℕ → Type 0
Takes old new level line number = (out : List ℕ) (ns : List OpenNode) → Rests old out ns → CanStandAt level (length ns) line → OpensLine old.limit new out ns level line number

-- a line that it closes can't be closed, and the octets of closed messages are at the front; or memory ran out
abbrev pub TakeFails : EncodeBuffer → EncodeBuffer → ℕ → TakeErr → Type 0
TakeFails old new level Memory = Unit {0}
TakeFails old new level (Refuses e) = (out : List ℕ) (ns : List OpenNode) → Rests old out ns → Fails old.limit level ns e × Front new out
