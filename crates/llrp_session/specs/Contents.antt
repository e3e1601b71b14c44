-- What a client and a reader say to each other, and what each reads in a message.
use Rattle.std.specs.Prelude.{ℕ, ◌==◌, Bool, false, List, Option, None, Some, if◌then◌else◌}
use Rattle.llrp_tree.specs.Tree.{Tree}
use Rattle.llrp_session.specs.RoSpec.{ReportSpec}
use Rattle.llrp_session.specs.Table.{Entry}
pub use Rattle.llrp_session.specs.declared.types.Operation.{Operation}
pub use Rattle.llrp_session.specs.declared.types.Operation.TheVariants.{Adding, Deleting, Starting, Stopping, Enabling, Disabling, Listing, Configuring, Closing}
pub use Rattle.llrp_session.specs.declared.types.Command.{Command}
pub use Rattle.llrp_session.specs.declared.types.Command.TheVariants.{Add, Delete, Start, Stop, Enable, Disable, GetRospecs, SetKeepalive, GetReport, Close}

-- ---- what a reader reads in a message

pub record KeepaliveSpec : Type 0 where
  pub trigger : ℕ  -- 0 for none, 1 for a period
  pub period : ℕ  -- in milliseconds

-- what it reads in SET_READER_CONFIG
pub record Config : Type 0 where
  pub reset : Bool  -- to the factory default first
  pub keepalive : Option KeepaliveSpec
  pub report : Option ReportSpec

pub data Request : Type 0 where
  AddRoSpec : (rospec : Tree) → Request
  DeleteRoSpec : (id : ℕ) → Request
  StartRoSpec : (id : ℕ) → Request
  StopRoSpec : (id : ℕ) → Request
  EnableRoSpec : (id : ℕ) → Request
  DisableRoSpec : (id : ℕ) → Request
  GetRoSpecs : Request
  SetReaderConfig : Config → Request
  GetReports : Request  -- GET_REPORT
  CloseConnection : Request
  NoRequest : Request  -- KEEPALIVE_ACK, ENABLE_EVENTS_AND_REPORTS, ERROR_MESSAGE
  Unsupported : Request  -- any other kind of message

-- ---- what a reader says

pub data ReaderContent : Type 0 where
  Response : Operation → (status : ℕ) → ReaderContent
  Listed : List Entry → ReaderContent  -- GET_ROSPECS_RESPONSE with status 0, of the ROSpecs of this table
  Error : (status : ℕ) → ReaderContent  -- ERROR_MESSAGE
  Report : List Tree → ReaderContent  -- RO_ACCESS_REPORT, of these TagReportData
  KeepaliveSent : ReaderContent  -- KEEPALIVE
  -- READER_EVENT_NOTIFICATION with UTCTimestamp `now`, and then
  Accepted : (now : ℕ) → ReaderContent  -- ConnectionAttemptEvent 0
  Started : (now id : ℕ) → ReaderContent  -- ROSpecEvent 0 of this ROSpec, PreemptingROSpecID 0
  Ended : (now id : ℕ) → ReaderContent  -- ROSpecEvent 1 of this ROSpec, PreemptingROSpecID 0
  Overflowed : (now : ℕ) → ReaderContent  -- ReportBufferOverflowErrorEvent

-- a message of a reader
pub record ReaderMessage : Type 0 where
  pub version : ℕ
  pub id : ℕ
  pub word : ReaderContent

-- ---- what a client reads in a message

-- what it reads in a ROSpecEvent
pub record RoSpecChange : Type 0 where
  pub event : ℕ  -- 0 for a start, 1 and 2 for an end
  pub id : ℕ

-- what it reads in READER_EVENT_NOTIFICATION: of each of three events, whether it is there
pub record Notification : Type 0 where
  pub attempt : Option ℕ  -- ConnectionAttemptEvent's status
  pub closes : Bool  -- ConnectionCloseEvent
  pub rospec : Option RoSpecChange  -- ROSpecEvent

pub data Heard : Type 0 where
  HeardResponse : Operation → (status : ℕ) → (rospecs : List Tree) → Heard  -- with the ROSpecs that it lists
  HeardError : (status : ℕ) → Heard
  HeardReport : List Tree → Heard
  HeardKeepalive : Heard
  HeardNotification : Notification → Heard
  HeardOther : Heard  -- any other kind of message

-- ---- what a client says

pub data ClientContent : Type 0 where
  Asks : Command → ClientContent
  Acknowledges : ClientContent  -- KEEPALIVE_ACK

-- a message of a client; its version is 1
pub record ClientMessage : Type 0 where
  pub id : ℕ
  pub word : ClientContent

-- a keepalive every this many milliseconds, or none for 0
abbrev pub keepalive_each : ℕ → KeepaliveSpec
keepalive_each ms = if ms == 0 then record { trigger = 0; period = 0 } else record { trigger = 1; period = ms }

abbrev pub requested : Command → Request
requested (Add rospec) = AddRoSpec rospec
requested (Delete id) = DeleteRoSpec id
requested (Start id) = StartRoSpec id
requested (Stop id) = StopRoSpec id
requested (Enable id) = EnableRoSpec id
requested (Disable id) = DisableRoSpec id
requested GetRospecs = GetRoSpecs
requested (SetKeepalive ms) = SetReaderConfig (record { reset = false; keepalive = Some (keepalive_each ms); report = None })
requested GetReport = GetReports
requested Close = CloseConnection

-- what a reader reads in it
abbrev pub request : ClientContent → Request
request (Asks command) = requested command
request Acknowledges = NoRequest
