-- The message that each word of a reader is (LLRP 1.1, sections 11 to 17).
use Rattle.std.specs.Prelude.{ℕ, List, [], ◌∷◌}
use Rattle.llrp_schema.specs.declared.kinds.MsgKind.{MsgKind}
use Rattle.llrp_schema.specs.declared.kinds.MsgKind.TheVariants.{CloseConnectionResponse, SetReaderConfigResponse, AddRoSpecResponse, DeleteRoSpecResponse, StartRoSpecResponse, StopRoSpecResponse, EnableRoSpecResponse, DisableRoSpecResponse, GetRoSpecsResponse, RoAccessReport, Keepalive, ReaderEventNotification, ErrorMessage}
use Rattle.llrp_schema.specs.declared.kinds.ParamKind.{ParamKind}
use Rattle.llrp_schema.specs.declared.kinds.ParamKind.TheVariants.{LlrpStatus, ReaderEventNotificationData, UtcTimestamp, RoSpecEvent, ReportBufferOverflowErrorEvent, ConnectionAttemptEvent}
use Rattle.llrp_tree.specs.Tree.{Tree, MessageTree, forest}
use Rattle.llrp_session.specs.Table.{listing}
use Rattle.llrp_session.specs.Contents.{Operation, Adding, Deleting, Starting, Stopping, Enabling, Disabling, Listing, Configuring, Closing, ReaderContent, Response, Listed, Error, Report, KeepaliveSent, Accepted, Started, Ended, Overflowed, ReaderMessage}

-- a parameter of these fields and children; it has no tail, or an empty one
abbrev pub parameter : ParamKind → List ℕ → List Tree → Tree
parameter kind fields children = record { kind = kind; fields = fields; tail = []; children = forest children }

-- a status with no text
abbrev pub status_parameter : ℕ → Tree
status_parameter status = parameter LlrpStatus (status ∷ []) []

-- what happened at a moment: the time in UTC, and then the event
abbrev pub notification_data : ℕ → Tree → Tree
notification_data now event = parameter ReaderEventNotificationData [] (parameter UtcTimestamp (now ∷ []) [] ∷ event ∷ [])

-- a ROSpecEvent that preempts none
abbrev pub rospec_event : ℕ → ℕ → Tree
rospec_event event id = parameter RoSpecEvent (event ∷ id ∷ 0 ∷ []) []

-- the response of an operation
abbrev pub response_kind : Operation → MsgKind
response_kind Adding = AddRoSpecResponse
response_kind Deleting = DeleteRoSpecResponse
response_kind Starting = StartRoSpecResponse
response_kind Stopping = StopRoSpecResponse
response_kind Enabling = EnableRoSpecResponse
response_kind Disabling = DisableRoSpecResponse
response_kind Listing = GetRoSpecsResponse
response_kind Configuring = SetReaderConfigResponse
response_kind Closing = CloseConnectionResponse

abbrev pub reader_kind : ReaderContent → MsgKind
reader_kind (Response operation status) = response_kind operation
reader_kind (Listed table) = GetRoSpecsResponse
reader_kind (Error status) = ErrorMessage
reader_kind (Report tags) = RoAccessReport
reader_kind KeepaliveSent = Keepalive
reader_kind (Accepted now) = ReaderEventNotification
reader_kind (Started now id) = ReaderEventNotification
reader_kind (Ended now id) = ReaderEventNotification
reader_kind (Overflowed now) = ReaderEventNotification

abbrev pub reader_parameters : ReaderContent → List Tree
reader_parameters (Response operation status) = status_parameter status ∷ []
reader_parameters (Listed table) = status_parameter 0 ∷ listing table
reader_parameters (Error status) = status_parameter status ∷ []
reader_parameters (Report tags) = tags
reader_parameters KeepaliveSent = []
reader_parameters (Accepted now) = notification_data now (parameter ConnectionAttemptEvent (0 ∷ []) []) ∷ []
reader_parameters (Started now id) = notification_data now (rospec_event 0 id) ∷ []
reader_parameters (Ended now id) = notification_data now (rospec_event 1 id) ∷ []
reader_parameters (Overflowed now) = notification_data now (parameter ReportBufferOverflowErrorEvent [] []) ∷ []

-- the message of a reader; none of its messages has a field
unfoldable pub reader_message : ReaderMessage → MessageTree
reader_message m = record { version = m.version; id = m.id; kind = reader_kind m.word; fields = []; tail = []; children = forest (reader_parameters m.word) }
