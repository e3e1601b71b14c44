-- What a reader reads in a message, and what a client does.
use Rattle.std.specs.Prelude.{ℕ, ◌==◌, List, slice_index, Option, None, Some, is_some}
use Rattle.llrp_schema.specs.declared.kinds.MsgKind.{MsgKind}
use Rattle.llrp_schema.specs.declared.kinds.MsgKind.TheVariants as kinds
use Rattle.llrp_schema.specs.declared.kinds.ParamKind.TheVariants.{RoSpec, KeepaliveSpec as KeepaliveSpecParameter, LlrpStatus, ReaderEventNotificationData, ConnectionAttemptEvent, ConnectionCloseEvent, RoSpecEvent}
use Rattle.llrp_tree.specs.Tree.{Tree, Forest, MessageTree, trees}
use Rattle.llrp_session.specs.RoSpec.{first_in, all_in, first_below, field_of, report_spec_in}
use Rattle.llrp_session.specs.Contents.{Adding, Deleting, Starting, Stopping, Enabling, Disabling, Listing, Configuring, Closing, KeepaliveSpec, Config, Request, AddRoSpec, DeleteRoSpec, StartRoSpec, StopRoSpec, EnableRoSpec, DisableRoSpec, GetRoSpecs, SetReaderConfig, GetReports, CloseConnection, NoRequest, Unsupported, RoSpecChange, Notification, Heard, HeardResponse, HeardError, HeardReport, HeardKeepalive, HeardNotification, HeardOther}

-- ---- what a reader reads

-- the ROSpec of ADD_ROSPEC, which each lawful one has
abbrev pub adding : Option Tree → Request
adding None = Unsupported
adding (Some rospec) = AddRoSpec rospec

abbrev pub keepalive_where : Option Tree → Option KeepaliveSpec
keepalive_where None = None
keepalive_where (Some t) = Some (record { trigger = slice_index t.fields 0; period = slice_index t.fields 1 })

-- SET_READER_CONFIG; its other parameters are passed over
abbrev pub config_in : List ℕ → Forest → Config
config_in fields row = record {
  reset = slice_index fields 0 == 1;
  keepalive = keepalive_where (first_in KeepaliveSpecParameter row);
  report = report_spec_in row;
}

-- a message of this kind, with these fields and parameters
abbrev pub request_in : MsgKind → List ℕ → Forest → Request
request_in kinds.AddRoSpec fields row = adding (first_in RoSpec row)
request_in kinds.DeleteRoSpec fields row = DeleteRoSpec (slice_index fields 0)
request_in kinds.StartRoSpec fields row = StartRoSpec (slice_index fields 0)
request_in kinds.StopRoSpec fields row = StopRoSpec (slice_index fields 0)
request_in kinds.EnableRoSpec fields row = EnableRoSpec (slice_index fields 0)
request_in kinds.DisableRoSpec fields row = DisableRoSpec (slice_index fields 0)
request_in kinds.GetRoSpecs fields row = GetRoSpecs
request_in kinds.SetReaderConfig fields row = SetReaderConfig (config_in fields row)
request_in kinds.GetReport fields row = GetReports
request_in kinds.CloseConnection fields row = CloseConnection
request_in kinds.KeepaliveAck fields row = NoRequest
request_in kinds.EnableEventsAndReports fields row = NoRequest
request_in kinds.ErrorMessage fields row = NoRequest
request_in _ fields row = Unsupported

-- what a reader reads in a message
unfoldable pub request_of : MessageTree → Request
request_of m = request_in m.kind m.fields m.children

-- ---- what a client reads

-- the status in a response or in ERROR_MESSAGE
abbrev pub status_in : Forest → ℕ
status_in row = field_of 0 (first_in LlrpStatus row)

-- the ROSpecs that a response lists
abbrev pub rospecs_in : Forest → List Tree
rospecs_in row = all_in RoSpec row

abbrev pub attempt_where : Option Tree → Option ℕ
attempt_where None = None
attempt_where (Some t) = Some (slice_index t.fields 0)

abbrev pub change_where : Option Tree → Option RoSpecChange
change_where None = None
change_where (Some t) = Some (record { event = slice_index t.fields 0; id = slice_index t.fields 1 })

-- what ReaderEventNotificationData says
abbrev pub notification_where : Option Tree → Notification
notification_where data_parameter = record {
  attempt = attempt_where (first_below ConnectionAttemptEvent data_parameter);
  closes = is_some (first_below ConnectionCloseEvent data_parameter);
  rospec = change_where (first_below RoSpecEvent data_parameter);
}

-- a message of this kind, with these parameters
abbrev pub heard_in : MsgKind → Forest → Heard
heard_in kinds.AddRoSpecResponse row = HeardResponse Adding (status_in row) (rospecs_in row)
heard_in kinds.DeleteRoSpecResponse row = HeardResponse Deleting (status_in row) (rospecs_in row)
heard_in kinds.StartRoSpecResponse row = HeardResponse Starting (status_in row) (rospecs_in row)
heard_in kinds.StopRoSpecResponse row = HeardResponse Stopping (status_in row) (rospecs_in row)
heard_in kinds.EnableRoSpecResponse row = HeardResponse Enabling (status_in row) (rospecs_in row)
heard_in kinds.DisableRoSpecResponse row = HeardResponse Disabling (status_in row) (rospecs_in row)
heard_in kinds.GetRoSpecsResponse row = HeardResponse Listing (status_in row) (rospecs_in row)
heard_in kinds.SetReaderConfigResponse row = HeardResponse Configuring (status_in row) (rospecs_in row)
heard_in kinds.CloseConnectionResponse row = HeardResponse Closing (status_in row) (rospecs_in row)
heard_in kinds.ErrorMessage row = HeardError (status_in row)
heard_in kinds.RoAccessReport row = HeardReport (trees row)
heard_in kinds.Keepalive row = HeardKeepalive
heard_in kinds.ReaderEventNotification row = HeardNotification (notification_where (first_in ReaderEventNotificationData row))
heard_in _ row = HeardOther

-- what a client reads in a message
unfoldable pub heard_of : MessageTree → Heard
heard_of m = heard_in m.kind m.children
