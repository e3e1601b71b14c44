-- Beside Calls/ReadWords: words of private functions.
use Rattle.std.specs.Prelude.{◌≡◌, Option, None, Some}
use Rattle.llrp_tree.specs.Tree.{Tree, MessageTree, trees}
use Rattle.llrp_session.specs.RoSpec.{rospec_of}
use Rattle.llrp_session.specs.Contents as words
use Rattle.llrp_session.specs.Reading.{rospecs_in}
use Rattle.llrp_session.specs.Private.Settings.{settings_of}
use Rattle.llrp_session.specs.declared.parse.parsed.KeepaliveSpec.{KeepaliveSpec}
use Rattle.llrp_session.specs.declared.parse.parsed.Config.{Config}
use Rattle.llrp_session.specs.declared.parse.parsed.RoSpecChange.{RoSpecChange}
use Rattle.llrp_session.specs.declared.parse.parsed.Notification.{Notification}
use Rattle.llrp_session.specs.declared.parse.parsed.Request.{Request}
use Rattle.llrp_session.specs.declared.parse.parsed.Request.TheVariants.{AddRoSpec, DeleteRoSpec, StartRoSpec, StopRoSpec, EnableRoSpec, DisableRoSpec, GetRoSpecs, SetReaderConfig, GetReports, CloseConnection, NoRequest, Unsupported}
use Rattle.llrp_session.specs.declared.parse.parsed.Heard.{Heard}
use Rattle.llrp_session.specs.declared.parse.parsed.Heard.TheVariants.{Response, Error, Report, Keepalive, Notified, Other}

-- ---- requests

abbrev pub keepalive_by : Option KeepaliveSpec → Option words.KeepaliveSpec
keepalive_by None = None
keepalive_by (Some k) = Some (record { trigger = k.trigger; period = k.period })

abbrev pub config_by : Config → words.Config
config_by k = record { reset = k.reset; keepalive = keepalive_by k.keepalive; report = k.report }

-- the code's request is this one; of ADD_ROSPEC it has the settings
abbrev pub IsRequest : Request → words.Request → Type 0
IsRequest (AddRoSpec settings) q = (rospec : Tree) × (q ≡ words.AddRoSpec rospec) × (settings ≡ settings_of (rospec_of rospec))
IsRequest (DeleteRoSpec id) q = q ≡ words.DeleteRoSpec id
IsRequest (StartRoSpec id) q = q ≡ words.StartRoSpec id
IsRequest (StopRoSpec id) q = q ≡ words.StopRoSpec id
IsRequest (EnableRoSpec id) q = q ≡ words.EnableRoSpec id
IsRequest (DisableRoSpec id) q = q ≡ words.DisableRoSpec id
IsRequest GetRoSpecs q = q ≡ words.GetRoSpecs
IsRequest (SetReaderConfig k) q = q ≡ words.SetReaderConfig (config_by k)
IsRequest GetReports q = q ≡ words.GetReports
IsRequest CloseConnection q = q ≡ words.CloseConnection
IsRequest NoRequest q = q ≡ words.NoRequest
IsRequest Unsupported q = q ≡ words.Unsupported

-- ---- what a client hears

abbrev pub change_by : Option RoSpecChange → Option words.RoSpecChange
change_by None = None
change_by (Some e) = Some (record { event = e.event; id = e.id })

abbrev pub notification_by : Notification → words.Notification
notification_by n = record { attempt = n.attempt; closes = n.closes; rospec = change_by n.rospec }

-- what the code hears in a message; the TagReportData and the ROSpecs stay in it
abbrev pub heard_by : MessageTree → Heard → words.Heard
heard_by m (Response operation status) = words.HeardResponse operation status (rospecs_in m.children)
heard_by m (Error status) = words.HeardError status
heard_by m Report = words.HeardReport (trees m.children)
heard_by m Keepalive = words.HeardKeepalive
heard_by m (Notified n) = words.HeardNotification (notification_by n)
heard_by m Other = words.HeardOther
