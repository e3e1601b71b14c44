-- What a step of the code is in the reader's machine.
use Rattle.std.specs.Prelude.{◌≡◌, List, ◌++◌, map, Result, Ok, Err}
use Rattle.llrp_tree.specs.Tree.{MessageTree}
use Rattle.llrp_session.specs.Refusal as refusals
use Rattle.llrp_session.specs.Refusal.{Refusal}
use Rattle.llrp_session.specs.ReaderMachine.{Reader, Turn, ReaderEvent, Connect, Take, TakeBad, Seen, Tick}
use Rattle.llrp_session.specs.ReaderMessages.{reader_message}
use Rattle.llrp_session.specs.Reading.{request_of}
use Rattle.llrp_session.specs.declared.reader.events.ReaderIn.{ReaderIn}
use Rattle.llrp_session.specs.declared.reader.events.ReaderIn.TheVariants as code
use Rattle.llrp_session.specs.declared.reader.events.StepFault.{StepFault}
use Rattle.llrp_session.specs.declared.reader.events.StepFault.TheVariants as faults

-- the event that is given: a message stands for its version, its id and the request that is read in it
abbrev pub event_of : ReaderIn → ReaderEvent
event_of code.Connect = Connect
event_of (code.Take m) = Take m.version m.id (request_of m)
event_of (code.TakeBad id reason) = TakeBad id reason
event_of (code.Seen g) = Seen g
event_of code.Tick = Tick

-- the state of a turn: its messages were appended to those before, and the reader is the turn's
pub record Stands (before : List MessageTree) (t : Turn) (after : List MessageTree) (r : Reader) : Type 0 where
  pub sent : after ≡ before ++ map reader_message t.sent
  pub reader : r ≡ t.reader

-- there is a turn in such a state
abbrev pub Turns : Result Turn Refusal → List MessageTree → List MessageTree → Reader → Type 0
Turns (Err refusal) before after r = ⊥
Turns (Ok turn) before after r = Stands before turn after r

-- the event is refused for this reason; memory is wanted only where there is a turn
abbrev pub IsFault : Result Turn Refusal → StepFault → Type 0
IsFault (Ok turn) faults.Memory = Unit {0}
IsFault (Err refusals.Closed) faults.Closed = Unit {0}
IsFault (Err refusals.NotConnected) faults.NotConnected = Unit {0}
IsFault (Err refusals.AlreadyUp) faults.AlreadyUp = Unit {0}
IsFault _ _ = ⊥
