-- The two ends agree, whatever happens and however the bytes between them are cut.
use Rattle.std.specs.Prelude.{◌≡◌, ℕ, ◌<◌, ◌≤◌, ◌^◌, ◌⊎◌, List, [], ◌++◌, length, map, take, None}
use Rattle.std.specs.List.{AllByRecursion}
use Rattle.llrp_schema.specs.declared.kinds.Kind.TheVariants.{Message}
use Rattle.llrp_schema.specs.declared.kinds.KindSet.TheVariants.{Profile}
use Rattle.llrp_schema.specs.Schema.{set_of_kind}
use Rattle.llrp_tree.specs.declared.TheConstants.{MAX_LIMIT}
use Rattle.llrp_tree.specs.Tree.{MessageTree}
use Rattle.llrp_stream.specs.declared.item.Item.{Item}
use Rattle.llrp_stream.specs.declared.item.Item.TheVariants.{Msg, Bad}
use Rattle.llrp_stream.specs.Cuts.{IsPartial, Breaks}
use Rattle.llrp_stream.specs.Items.{FrameIn, ItemsSoFar}
use Rattle.llrp_session.specs.Table.{states}
use Rattle.llrp_session.specs.World.{WorldEvent}
use Rattle.llrp_session.specs.MessageAgreement.{MessagesAreTaken, IsOnTheWay}
use Rattle.llrp_session.specs.MessageWorld.{MessageWorld, tags_in_messages, tables_in_messages, run_messages, message_opening, AreGiven}
use Rattle.llrp_endpoints.specs.Sending.{AreFrames}
use Rattle.llrp_endpoints.specs.ByteWorld.{Way, ByteWorld, ByteEvent, ReadsDown, ReadsBytes, Steps, Runs, apart, byte_opening, IsGivenEvent, AreGivenEvents}

-- messages of the profile: the octets of some are also those of a message of the whole standard
abbrev pub AreOwn : List MessageTree → Type 0
AreOwn messages = AllByRecursion (λ m. set_of_kind (Message m.kind) ≡ Profile) messages

-- The messages of the profile that are on a way, those that are half read among them.
pub record AreOnTheWay (messages : List MessageTree) (way : Way) : Type 0 where
  pub frames : AreFrames messages (way.read ++ way.coming)
  pub own : AreOwn messages

-- The same two ends, and the same messages on the way.
pub record IsInBytes (m : MessageWorld) (w : ByteWorld) : Type 0 where
  pub ends : w.ends ≡ apart m
  pub up : AreOnTheWay m.up w.up
  pub down : AreOnTheWay m.down w.down

-- two ends as new, their limit, and what happens
pub record Schedule : Type 0 where
  pub limit : ℕ
  pub reader_first : ℕ
  pub client_first : ℕ
  pub events : List ByteEvent

pub record IsGivenSchedule (s : Schedule) : Type 0 where
  pub least : 4096 ≤ s.limit
  pub most : s.limit ≤ MAX_LIMIT
  pub first : s.reader_first < 2 ^ 32
  pub events : AreGivenEvents s.events

abbrev pub RunsTo : Schedule → ByteWorld → Type 0
RunsTo s w = Runs s.limit s.events (byte_opening s.limit s.reader_first s.client_first) w

-- what holds after every schedule
abbrev pub AfterAllBytes : (ByteWorld → Type 0) → Type 0
AfterAllBytes P = (s : Schedule) (w : ByteWorld) → IsGivenSchedule s → RunsTo s w → P w

-- no schedule is stuck: each frame that is read is a message's
abbrev pub EachScheduleRuns : Type 0
EachScheduleRuns = (s : Schedule) → IsGivenSchedule s → (w : ByteWorld) × RunsTo s w

-- in each world that a schedule comes to, each event can happen next
abbrev pub EachEventHappens : Type 0
EachEventHappens = (s : Schedule) (w : ByteWorld) → IsGivenSchedule s → RunsTo s w → (e : ByteEvent) → IsGivenEvent e → (new : ByteWorld) × Steps s.limit e w new

-- the item is a message, not a faulty frame
abbrev pub IsMessage : Item → Type 0
IsMessage (Msg m) = Unit {0}
IsMessage (Bad id fault) = ⊥

-- The bytes are the beginning of a frame of a message of the profile, and less than the frame.
pub record IsFrontOfMessage (limit : ℕ) (bytes : List ℕ) : Type 0 where
  pub message : MessageTree
  pub later : List ℕ
  pub frame : FrameIn Profile message (bytes ++ later) limit
  pub unfinished : IsPartial bytes

-- The bytes are whole messages, and then nothing or a front of one more. However many of their frames are taken, each is a message's, and what
-- follows doesn't break the stream.
pub record AreMessages (limit : ℕ) (bytes : List ℕ) : Type 0 where
  pub messages : List MessageTree
  pub front : List ℕ
  pub whole : ItemsSoFar limit bytes (map Msg messages) front
  pub one_more : (front ≡ []) ⊎ IsFrontOfMessage limit front
  pub no_fault : (items : List Item) (rest : List ℕ) → ItemsSoFar limit bytes items rest → AllByRecursion IsMessage items
  pub no_break : (items : List Item) (rest : List ℕ) → ItemsSoFar limit bytes items rest → Breaks rest → ⊥

-- What an end has half read, and the next n bytes on the way after it, are messages, whatever n is.
abbrev pub NextAreMessages : ℕ → Way → Type 0
NextAreMessages limit way = (n : ℕ) → AreMessages limit (way.read ++ take n way.coming)

-- in either direction: no end meets a faulty frame or a broken stream
abbrev pub BytesAreMessages : Type 0
BytesAreMessages = (s : Schedule) (w : ByteWorld) → IsGivenSchedule s → RunsTo s w → NextAreMessages s.limit w.up × NextAreMessages s.limit w.down

-- some run of whole messages has the same ends, and has on the way the messages whose frames the bytes are
abbrev pub IsARunOfMessages : Type 0
IsARunOfMessages = (s : Schedule) (w : ByteWorld) → IsGivenSchedule s → RunsTo s w
    → (events : List WorldEvent) × (AreGiven events × IsInBytes (run_messages events (message_opening s.limit s.reader_first s.client_first)) w)

-- the client takes each message that it reads: none is unexpected, and none comes after its closing
abbrev pub NothingIsUnexpected : Type 0
NothingIsUnexpected = (s : Schedule) (w : ByteWorld) → IsGivenSchedule s → RunsTo s w
    → (n : ℕ) (new : Way) (messages : List MessageTree) → ReadsBytes s.limit n w.down new messages → MessagesAreTaken messages w.ends.client

-- with no byte on the way down the client's view is the reader's table of states
abbrev pub ViewIsTable : ByteWorld → Type 0
ViewIsTable w = w.down.coming ≡ [] → w.ends.client.view ≡ states w.ends.reader.table

-- reading all bytes on the way down makes the client's view the reader's table of states
abbrev pub ViewCatchesUp : Type 0
ViewCatchesUp = (s : Schedule) (w new : ByteWorld) → IsGivenSchedule s → RunsTo s w
    → Steps s.limit (ReadsDown (length w.down.coming)) w new → new.ends.client.view ≡ states w.ends.reader.table

-- the reports delivered, followed by those on the way down, are the reports sent, in order, each once
abbrev pub ReportsArrive : ByteWorld → Type 0
ReportsArrive w = (down : List MessageTree) → AreOnTheWay down w.down → w.ends.handed_out ++ tags_in_messages down ≡ w.ends.reported

-- with those held they are the reports of the sightings that counted and were not dropped
abbrev pub ReportsAreKept : ByteWorld → Type 0
ReportsAreKept w = (down : List MessageTree) → AreOnTheWay down w.down → (w.ends.handed_out ++ tags_in_messages down) ++ w.ends.reader.held ≡ w.ends.kept

-- the tables that the client took, followed by those on the way down, are the reader's table as it was at each GET_ROSPECS, in order
abbrev pub TablesArrive : ByteWorld → Type 0
TablesArrive w = (down : List MessageTree) → AreOnTheWay down w.down → w.ends.tables ++ tables_in_messages down ≡ w.ends.listed

-- the pending request is on the way up, or its one response on the way down, never both; without one neither way has any
abbrev pub PendingIsOnTheWay : ByteWorld → Type 0
PendingIsOnTheWay w = (up down : List MessageTree) → AreOnTheWay up w.up → AreOnTheWay down w.down → IsOnTheWay w.ends.client.pending up down

-- with no byte on either way nothing is pending
abbrev pub NothingIsPending : ByteWorld → Type 0
NothingIsPending w = w.up.coming ≡ [] → w.down.coming ≡ [] → w.ends.client.pending ≡ None
