-- Of which events of antennas and inputs a client asked to hear (LLRP 1.1, section 13): of those for which a ReaderEventNotificationSpec says so.
use Rattle.std.specs.Prelude.{ℕ, ◌==◌, ◌&&◌, ◌||◌, not, Bool, true, false, if◌then◌else◌, List, [], ◌∷◌, slice_index}
use Rattle.llrp_schema.specs.declared.kinds.MsgKind.TheVariants.{SetReaderConfig, SetReaderConfigResponse}
use Rattle.llrp_schema.specs.declared.kinds.ParamKind.TheVariants.{LlrpStatus, ReaderEventNotificationSpec}
use Rattle.llrp_schema.specs.declared.kinds.Kind.TheVariants.{Message}
use Rattle.llrp_schema.specs.Schema.{number_of}
use Rattle.llrp_tree.specs.Tree.{Tree, MessageTree, trees}
use Rattle.llrp_stream.specs.declared.item.Item.{Item}
use Rattle.llrp_stream.specs.declared.item.Item.TheVariants.{Msg, Bad}
use Rattle.llrp_session.specs.declared.reader.side_events.SideEvent.{SideEvent}
use Rattle.llrp_session.specs.declared.reader.side_events.SideEvent.TheVariants.{AntennaOff, AntennaOn, InputLow, InputHigh, OtherClient}
use Rattle.llrp_live.specs.declared.notices.Notices.{Notices}
use Rattle.llrp_live.specs.Calls.Starts.{is_parameter}

-- Of other clients it always hears. Of the others it hears none at first.
abbrev pub none : Notices
none = record { antennas = false; inputs = false }

abbrev pub includes : Notices → SideEvent → Bool
includes n (AntennaOff number) = n.antennas
includes n (AntennaOn number) = n.antennas
includes n (InputLow port) = n.inputs
includes n (InputHigh port) = n.inputs
includes n OtherClient = true

-- ---- a SET_READER_CONFIG

-- the field at a place, or 0
abbrev pub field : List ℕ → ℕ → ℕ
field fields place = slice_index fields place

-- of these EventNotificationStates the last of an EventType counts: its NotificationState
abbrev pub state_in : (event : ℕ) → Bool → List Tree → Bool
state_in event before [] = before
state_in event before (t ∷ ts) = state_in event (if field t.fields 0 == event then field t.fields 1 == 1 else before) ts

-- they are in the ReaderEventNotificationSpec among these parameters
abbrev pub state_after : (event : ℕ) → Bool → List Tree → Bool
state_after event before [] = before
state_after event before (t ∷ ts) =
    state_after event (if is_parameter t ReaderEventNotificationSpec then state_in event before (trees t.children) else before) ts

-- ResetToFactoryDefault is set
abbrev pub is_reset : MessageTree → Bool
is_reset m = slice_index m.fields 0 == 1

-- after one that was done; the EventType of a GPIEvent is 1, and of an AntennaEvent 8
abbrev pub notices_after : Notices → MessageTree → Notices
notices_after n m = record {
  antennas = state_after 8 (n.antennas && not (is_reset m)) (trees m.children);
  inputs = state_after 1 (n.inputs && not (is_reset m)) (trees m.children);
}

-- ---- whether it was done

abbrev pub is_success : Tree → Bool
is_success t = is_parameter t LlrpStatus && (field t.fields 0 == 0)

abbrev pub has_success : List Tree → Bool
has_success [] = false
has_success (t ∷ ts) = is_success t || has_success ts

-- its response, with the status 0
abbrev pub says_done : MessageTree → Bool
says_done m = (number_of (Message m.kind) == number_of (Message SetReaderConfigResponse)) && has_success (trees m.children)

abbrev pub has_done : List MessageTree → Bool
has_done [] = false
has_done (m ∷ ms) = says_done m || has_done ms

abbrev pub configures : MessageTree → Bool
configures m = number_of (Message m.kind) == number_of (Message SetReaderConfig)

-- after an item to which these messages were said
abbrev pub after : Notices → Item → List MessageTree → Notices
after n (Msg m) said = if configures m && has_done said then notices_after n m else n
after n (Bad id fault) said = n
