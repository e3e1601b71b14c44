-- Which words have a message: each number is one that its type holds, a ROSpec is lawful, and reports are few and short.
use Rattle.std.specs.Prelude.{◌≡◌, ℕ, ◌+◌, ◌^◌, ◌<◌, ◌≤◌, ◌⊎◌, List, [], ◌∷◌, length}
use Rattle.llrp_schema.specs.declared.kinds.ParamKind.TheVariants.{RoSpec, TagReportData}
use Rattle.llrp_schema.specs.declared.kinds.Kind.TheVariants.{Message}
use Rattle.llrp_schema.specs.declared.kinds.KindSet.TheVariants.{Profile}
use Rattle.llrp_schema.specs.Schema.{set_of_kind}
use Rattle.llrp_tree.specs.Tree.{Tree, MessageTree}
use Rattle.llrp_tree.specs.Lawful.{IsLawfulTree, IsLawfulMessage, tree_octets, message_octets}
use Rattle.llrp_session.specs.RoSpec.{RoSpec as RoSpecRead}
use Rattle.llrp_session.specs.Table.{Entry, octets_of}
use Rattle.llrp_session.specs.Contents.{Command, Add, Delete, Start, Stop, Enable, Disable, GetRospecs, SetKeepalive, GetReport, Close, ReaderContent, Response, Listed, Error, Report, KeepaliveSent, Accepted, Started, Ended, Overflowed, ReaderMessage, ClientContent, Asks, Acknowledges, ClientMessage}
use Rattle.llrp_session.specs.ReaderMachine.{most_held}

-- a message that may be sent: a lawful one of the profile, within the limit
pub record IsSendable (limit : ℕ) (m : MessageTree) : Type 0 where
  pub own : set_of_kind (Message m.kind) ≡ Profile
  pub lawful : IsLawfulMessage m
  pub within : message_octets m ≤ limit

-- ---- the words of a reader

-- the greatest length of a TagReportData of a reader, in octets: all nine parts are selected
abbrev pub longest_report : ℕ
longest_report = 57

pub record IsReport (t : Tree) : Type 0 where
  pub kind : t.kind ≡ TagReportData
  pub lawful : IsLawfulTree t
  pub short : tree_octets t ≤ longest_report

abbrev pub AreReports : List Tree → Type 0
AreReports [] = Unit {0}
AreReports (t ∷ ts) = IsReport t × AreReports ts

-- the numbers of a ROSpec that are written of it, and the ROSpec in which they are read
pub record IsToldOf (s : RoSpecRead) : Type 0 where
  pub id : s.id < 2 ^ 32
  pub inventory : s.inventory < 2 ^ 16
  pub kind : s.tree.kind ≡ RoSpec
  pub lawful : IsLawfulTree s.tree
  pub octets : s.octets ≡ tree_octets s.tree

abbrev pub AreToldOf : List Entry → Type 0
AreToldOf [] = Unit {0}
AreToldOf (e ∷ es) = IsToldOf e.spec × AreToldOf es

-- the ROSpecs of a table fit one message of this limit
abbrev pub FitsLimit : ℕ → List Entry → Type 0
FitsLimit limit table = 18 + octets_of table ≤ limit

abbrev pub IsLawfulReaderWord : ℕ → ReaderContent → Type 0
IsLawfulReaderWord limit (Response operation status) = status < 2 ^ 16
IsLawfulReaderWord limit (Listed table) = AreToldOf table × FitsLimit limit table
IsLawfulReaderWord limit (Error status) = status < 2 ^ 16
IsLawfulReaderWord limit (Report tags) = AreReports tags × (length tags ≤ most_held)
IsLawfulReaderWord limit KeepaliveSent = Unit {0}
IsLawfulReaderWord limit (Accepted now) = now < 2 ^ 64
IsLawfulReaderWord limit (Started now id) = (now < 2 ^ 64) × (id < 2 ^ 32)
IsLawfulReaderWord limit (Ended now id) = (now < 2 ^ 64) × (id < 2 ^ 32)
IsLawfulReaderWord limit (Overflowed now) = now < 2 ^ 64

pub record IsLawfulReaderMessage (limit : ℕ) (m : ReaderMessage) : Type 0 where
  pub version : (m.version ≡ 1) ⊎ (m.version ≡ 2)
  pub id : m.id < 2 ^ 32
  pub word : IsLawfulReaderWord limit m.word

-- ---- the words of a client

-- a lawful ROSpec whose ADD_ROSPEC is within the limit
pub record IsLawfulRoSpec (limit : ℕ) (t : Tree) : Type 0 where
  pub kind : t.kind ≡ RoSpec
  pub lawful : IsLawfulTree t
  pub within : 10 + tree_octets t ≤ limit

abbrev pub IsLawfulCommand : ℕ → Command → Type 0
IsLawfulCommand limit (Add spec) = IsLawfulRoSpec limit spec
IsLawfulCommand limit (Delete id) = id < 2 ^ 32
IsLawfulCommand limit (Start id) = id < 2 ^ 32
IsLawfulCommand limit (Stop id) = id < 2 ^ 32
IsLawfulCommand limit (Enable id) = id < 2 ^ 32
IsLawfulCommand limit (Disable id) = id < 2 ^ 32
IsLawfulCommand limit GetRospecs = Unit {0}
IsLawfulCommand limit (SetKeepalive ms) = ms < 2 ^ 32
IsLawfulCommand limit GetReport = Unit {0}
IsLawfulCommand limit Close = Unit {0}

abbrev pub IsLawfulClientWord : ℕ → ClientContent → Type 0
IsLawfulClientWord limit (Asks k) = IsLawfulCommand limit k
IsLawfulClientWord limit Acknowledges = Unit {0}

pub record IsLawfulClientMessage (limit : ℕ) (m : ClientMessage) : Type 0 where
  pub id : m.id < 2 ^ 32
  pub word : IsLawfulClientWord limit m.word

-- the ROSpec of an ADD_ROSPEC is a ROSpec
abbrev pub AddsRoSpec : Command → Type 0
AddsRoSpec (Add spec) = spec.kind ≡ RoSpec
AddsRoSpec _ = Unit {0}

abbrev pub SaysRoSpec : ClientContent → Type 0
SaysRoSpec (Asks k) = AddsRoSpec k
SaysRoSpec Acknowledges = Unit {0}
