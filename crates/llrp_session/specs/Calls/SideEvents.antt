-- The message of a reader about its antennas, its inputs and other clients, beside what its machine says (LLRP 1.1, section 14).
use Rattle.std.specs.Prelude.{◌≡◌, ℕ, List, [], ◌∷◌, ◌++◌}
use Rattle.llrp_schema.specs.declared.kinds.MsgKind.TheVariants.{ReaderEventNotification}
use Rattle.llrp_schema.specs.declared.kinds.ParamKind.TheVariants.{AntennaEvent, ConnectionAttemptEvent, GpiEvent}
use Rattle.llrp_tree.specs.Tree.{Tree, MessageTree, forest}
use Rattle.llrp_session.specs.ReaderMachine.{Reader, ReaderPhase, Waiting, Up, Down, following}
use Rattle.llrp_session.specs.ReaderMessages.{parameter, notification_data}
use Rattle.llrp_session.specs.declared.reader.side_events.SideEvent.{SideEvent}
use Rattle.llrp_session.specs.declared.reader.side_events.SideEvent.TheVariants.{AntennaOff, AntennaOn, InputLow, InputHigh, OtherClient}

-- An AntennaEvent has the EventType 0 or 1, that the antenna is disconnected or connected, a GPIEvent says whether the port is high, and a
-- ConnectionAttemptEvent has the status 4, that another connection was attempted.
abbrev pub side_event : SideEvent → Tree
side_event (AntennaOff number) = parameter AntennaEvent (0 ∷ number ∷ []) []
side_event (AntennaOn number) = parameter AntennaEvent (1 ∷ number ∷ []) []
side_event (InputLow port) = parameter GpiEvent (port ∷ 0 ∷ []) []
side_event (InputHigh port) = parameter GpiEvent (port ∷ 1 ∷ []) []
side_event OtherClient = parameter ConnectionAttemptEvent (4 ∷ []) []

-- with this version, and under this id
abbrev pub notification : (version id now : ℕ) → SideEvent → MessageTree
notification version id now event = record {
  version = version;
  id = id;
  kind = ReaderEventNotification;
  fields = [];
  tail = [];
  children = forest (notification_data now (side_event event) ∷ []);
}

-- a connected client hears of it, under the reader's next own id
abbrev pub notified : ReaderPhase → ℕ → SideEvent → Reader → List MessageTree
notified Waiting now event r = []
notified Up now event r = notification r.version r.next_id now event ∷ []
notified Down now event r = []

-- and the reader then
abbrev pub having_notified : ReaderPhase → Reader → Reader
having_notified Waiting r = r
having_notified Up r = record r { next_id = following r.next_id }
having_notified Down r = r

-- this was appended to the messages before, and the reader is as it is then
pub record Notifies (now : ℕ) (event : SideEvent) (old new : Reader) (before after : List MessageTree) : Type 0 where
  pub sent : after ≡ before ++ notified old.phase now event old
  pub reader : new ≡ having_notified old.phase old
