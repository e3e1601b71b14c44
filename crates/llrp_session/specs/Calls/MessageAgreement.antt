-- Beside MessageAgreement: what contracts say that no promise rests on.
use Rattle.std.specs.Prelude.{◌≡◌, ℕ, List, [], ◌∷◌, ◌++◌, Option, None, Some}
use Rattle.llrp_tree.specs.Tree.{MessageTree}
use Rattle.llrp_session.specs.Table.{states}
use Rattle.llrp_session.specs.ClientMachine.{Client, take}
use Rattle.llrp_session.specs.World.{WorldEvent}
use Rattle.llrp_session.specs.Calls.Agreement.{and_then}
use Rattle.llrp_session.specs.Reading.{heard_of}
use Rattle.llrp_session.specs.MessageWorld.{MessageWorld, tags_in_messages, tables_in_messages, run_messages, message_opening}
use Rattle.llrp_session.specs.Calls.MessageWorld.{AreOfRoSpecs}
use Rattle.llrp_session.specs.MessageAgreement.{MessagesAreTaken, IsOnTheWay}

-- what holds after every list of events, from two ends as new, if what a client adds is always a ROSpec
abbrev pub AfterAllMessages : (MessageWorld → Type 0) → Type 0
AfterAllMessages P = (limit reader_first client_first : ℕ) (events : List WorldEvent) → AreOfRoSpecs events → P (run_messages events (message_opening limit reader_first client_first))

-- the client once it took these messages; none where it refuses one of them
abbrev pub messages_taken_in : List MessageTree → Client → Option Client
messages_taken_in [] c = Some c
messages_taken_in (m ∷ ms) c = and_then (take c m.id (heard_of m)) (messages_taken_in ms)

-- (a) taking in what is on the way down makes the client's view the reader's table of states
abbrev pub ViewCatchesUp : MessageWorld → Type 0
ViewCatchesUp w = (c : Client) × (messages_taken_in w.down w.client ≡ Some c) × (c.view ≡ states w.reader.table)

-- with nothing on the way down they are equal
abbrev pub ViewIsTable : MessageWorld → Type 0
ViewIsTable w = w.down ≡ [] → w.client.view ≡ states w.reader.table

-- (b) the reports delivered, followed by those on the way down, are the reports sent, in order, each once
abbrev pub ReportsArrive : MessageWorld → Type 0
ReportsArrive w = w.handed_out ++ tags_in_messages w.down ≡ w.reported

-- with those held they are the reports of the sightings that counted and were not dropped
abbrev pub ReportsAreKept : MessageWorld → Type 0
ReportsAreKept w = (w.handed_out ++ tags_in_messages w.down) ++ w.reader.held ≡ w.kept

-- (d) the client never meets an unexpected message, nor one after its closing
abbrev pub NothingIsUnexpected : MessageWorld → Type 0
NothingIsUnexpected w = MessagesAreTaken w.down w.client

-- ---- the pending request

-- (e) the pending request is on the way up, or its one response on the way down, never both; without one neither does any
abbrev pub PendingIsOnTheWay : MessageWorld → Type 0
PendingIsOnTheWay w = IsOnTheWay w.client.pending w.up w.down

-- with nothing on the way nothing is pending
abbrev pub NothingIsPending : MessageWorld → Type 0
NothingIsPending w = w.up ≡ [] → w.down ≡ [] → w.client.pending ≡ None

-- ---- the reader's table

-- (f) the tables that the client took, followed by those on the way down, are the reader's table as it was at each GET_ROSPECS, in order
abbrev pub TablesArrive : MessageWorld → Type 0
TablesArrive w = w.tables ++ tables_in_messages w.down ≡ w.listed
