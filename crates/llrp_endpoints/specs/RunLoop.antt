-- What the two ends of one connection do in turn.
use Rattle.std.specs.Prelude.{◌≡◌, ℕ, ◌+◌, ◌≤◌, ◌⊎◌, List, [], ◌++◌, length, Result, Ok, Err}
use Rattle.llrp_tree.specs.Tree.{MessageTree}
use Rattle.llrp_stream.specs.Device.{SourceLog, SinkLog, Gave, Wrote, WroteAndFailed}
use Rattle.llrp_session.specs.ReaderMachine.{Reader}
use Rattle.llrp_listing.specs.declared.outcome.ToolErr.{ToolErr}
use Rattle.llrp_listing.specs.declared.outcome.ToolErr.TheVariants.{Read, Write, Bound, Broken, Memory, Peer, Strange, Early}
use Rattle.llrp_endpoints.specs.declared.both_ends.Endpoint.{Endpoint}
use Rattle.llrp_endpoints.specs.declared.course.Phase.{Phase}
use Rattle.llrp_endpoints.specs.declared.course.Phase.TheVariants.{Closed, Failed}
use Rattle.llrp_endpoints.specs.declared.script.Entry.{Entry}
use Rattle.llrp_endpoints.specs.declared.summary.Summary.{Summary}
use Rattle.llrp_listing.specs.Copying.{ReadAll, GaveAndFailed, IsPrefix, WasGiven}
use Rattle.llrp_listing.specs.declared.devices.TheConstants.{MOST_READS}
use Rattle.llrp_endpoints.specs.Gathering.{Course}
use Rattle.llrp_endpoints.specs.Plan.{Plan}
use Rattle.llrp_endpoints.specs.RunInventory.{Says, AwaitsBytes, BreaksOff, Ended, BeginsSaying}
use Rattle.llrp_endpoints.specs.RunServe.{BeginsFrames}
use Rattle.llrp_endpoints.specs.Sending.{AreFrames}
use Rattle.llrp_endpoints.specs.Serving.{Standing, waiting, closed, broken, Serves}
use Rattle.llrp_endpoints.specs.TagLines.{summary_of}

-- ---- the connection

-- who is at its ends: a reader with its script, and a client with its limit and its plan
pub record BothEnds : Type 0 where
  pub reader : Reader
  pub entries : List Entry
  pub limit : ℕ
  pub plan : Plan

-- one way of it: the sink that its bytes go into, and the source that they come out of
pub record DeviceWay : Type 0 where
  pub sink : SinkLog
  pub source : SourceLog

-- the way down to the client, the way up to the reader, and where the client reports
pub record Devices : Type 0 where
  pub down : DeviceWay
  pub up : DeviceWay
  pub report : SinkLog

-- these devices by their logs: of the client's end, of the reader's end, and of the report
abbrev pub devices : {CR CW RR RW P : Type 0} → (CR → SourceLog) → (CW → SinkLog) → (RR → SourceLog) → (RW → SinkLog) → (P → SinkLog) → Endpoint CR CW → Endpoint RR RW → P → Devices
devices client_reads client_writes reader_reads reader_writes reports client reader report =
    record { down = record { sink = reader_writes reader.sink; source = client_reads client.source }; up = record { sink = client_writes client.sink; source = reader_reads reader.source }; report = reports report }

-- what was said on a way, of which the first bytes were written and the others not yet, and what was read
pub record Traffic : Type 0 where
  pub written : List ℕ
  pub unwritten : List ℕ
  pub read : List ℕ

-- ---- what the devices of a way did

-- The writes on a way went so, and the reads so. What a write took is read before the next write.
pub record Passed (Writes : SinkLog → SinkLog → List ℕ → Type 0) (Reads : SourceLog → SourceLog → List ℕ → Type 0) (old new : DeviceWay) (bytes : Traffic) : Type 0 where
  pub wrote : Writes old.sink new.sink bytes.written
  pub gave : Reads old.source new.source bytes.read
  pub no_more : length bytes.read ≤ length bytes.written
  pub no_later : length bytes.written ≤ length bytes.read + 4096

-- nothing failed on a way
abbrev pub Fine : DeviceWay → DeviceWay → Traffic → Type 0
Fine old new bytes = Passed Wrote WasGiven old new bytes

-- nothing failed on either way
abbrev pub BothFine : Devices → Devices → Traffic → Traffic → Type 0
BothFine old new down up = Fine old.down new.down down × Fine old.up new.up up

-- on one way the writes and the reads went so, and nothing failed on the other
abbrev pub OneFine : (SinkLog → SinkLog → List ℕ → Type 0) → (SourceLog → SourceLog → List ℕ → Type 0) → Devices → Devices → Traffic → Traffic → Type 0
OneFine Writes Reads old new down up = (Passed Writes Reads old.down new.down down × Fine old.up new.up up) ⊎ (Fine old.down new.down down × Passed Writes Reads old.up new.up up)

-- reads gave these bytes, and then one failed
abbrev pub GivenAndFailed : SourceLog → SourceLog → List ℕ → Type 0
GivenAndFailed r0 r1 bytes = (n : ℕ) × GaveAndFailed r0 r1 n bytes

-- as many reads as there may be gave these bytes
abbrev pub GivenByMost : SourceLog → SourceLog → List ℕ → Type 0
GivenByMost r0 r1 bytes = Gave r0 r1 MOST_READS bytes

-- all that was said was written, and as much was read
pub record IsSilent (bytes : Traffic) : Type 0 where
  pub all_written : bytes.unwritten ≡ []
  pub all_read : length bytes.read ≡ length bytes.written

-- ---- what the reader says

-- What was written down are the frames of all that the reader says to the bytes that it read; serving is in this state.
pub record ReaderSays (e : BothEnds) (standing : Standing) (down up : Traffic) : Type 0 where
  pub messages : List MessageTree
  pub serves : Serves e.reader e.entries up.read messages standing
  pub frames : AreFrames messages (down.written ++ down.unwritten)

-- serving goes on, or the client has closed the connection
abbrev pub ReaderGoes : BothEnds → Traffic → Traffic → Type 0
ReaderGoes e down up = ReaderSays e waiting down up ⊎ ReaderSays e closed down up

-- what was said down are the frames of the first of that
abbrev pub ReaderBegins : BothEnds → Traffic → Traffic → Type 0
ReaderBegins e down up = BeginsFrames e.reader e.entries up.read (down.written ++ down.unwritten)

-- ---- what the client says

-- What was said up are the frames of all that the client says on this course, and all its lines were written.
abbrev pub SaidAll : Course → Traffic → SinkLog → SinkLog → Type 0
SaidAll course up p0 p1 = (lines : List ℕ) × Says course (up.written ++ up.unwritten) lines × Wrote p0 p1 lines

-- the bytes that it read leave it so, and it said all
abbrev pub ClientAwaits : BothEnds → Traffic → Traffic → SinkLog → SinkLog → Type 0
ClientAwaits e down up p0 p1 = (course : Course) × AwaitsBytes e.limit e.plan down.read course × SaidAll course up p0 p1

abbrev pub ClientBreaksOff : BothEnds → Traffic → Traffic → SinkLog → SinkLog → Type 0
ClientBreaksOff e down up p0 p1 = (course : Course) × BreaksOff e.limit e.plan down.read course × SaidAll course up p0 p1

abbrev pub ClientEnded : BothEnds → Phase → Traffic → Traffic → SinkLog → SinkLog → Type 0
ClientEnded e phase down up p0 p1 = (course : Course) × Ended phase e.limit e.plan down.read course × SaidAll course up p0 p1

-- the connection was closed as planned, and this much was reported
abbrev pub ClientClosed : BothEnds → Traffic → Traffic → SinkLog → SinkLog → Summary → Type 0
ClientClosed e down up p0 p1 summary = (course : Course) × Ended Closed e.limit e.plan down.read course × SaidAll course up p0 p1 × (summary ≡ summary_of course.reports)

-- what was said up are the frames of the first of that, and these are the first lines
abbrev pub ClientBegins : BothEnds → Traffic → Traffic → List ℕ → Type 0
ClientBegins e down up lines = BeginsSaying e.limit e.plan down.read (up.written ++ up.unwritten) lines

-- the report failed after a front of them
abbrev pub ReportFailed : BothEnds → Traffic → Traffic → SinkLog → SinkLog → Type 0
ReportFailed e down up p0 p1 = (lines front : List ℕ) × ClientBegins e down up lines × IsPrefix front lines × WroteAndFailed p0 p1 front

-- ---- how it ends

-- What both ends did, by the answer. Each says what the definitions give for the bytes that it read itself.
abbrev pub RunsLoop : BothEnds → Devices → Devices → Traffic → Traffic → Result Summary ToolErr → Type 0
RunsLoop e old new down up (Ok summary) = BothFine old new down up × ReaderGoes e down up × ClientClosed e down up old.report new.report summary
RunsLoop e old new down up (Err (Peer status)) = BothFine old new down up × ReaderGoes e down up × ClientEnded e (Failed (Peer status)) down up old.report new.report
RunsLoop e old new down up (Err Strange) = BothFine old new down up × ReaderGoes e down up × ClientEnded e (Failed Strange) down up old.report new.report
-- the connection was closed before; a read met the end of input; or neither end has bytes to send
RunsLoop e old new down up (Err Early) =
    (BothFine old new down up × ReaderGoes e down up × ClientEnded e (Failed Early) down up old.report new.report)
    ⊎ ((OneFine Wrote ReadAll old new down up × ReaderGoes e down up × ClientAwaits e down up old.report new.report)
    ⊎ (BothFine old new down up × IsSilent down × IsSilent up × ReaderGoes e down up × ClientAwaits e down up old.report new.report))
RunsLoop e old new down up (Err Broken) =
    (BothFine old new down up × ReaderGoes e down up × ClientBreaksOff e down up old.report new.report) ⊎ (BothFine old new down up × ReaderSays e broken down up × ClientAwaits e down up old.report new.report)
RunsLoop e old new down up (Err Read) = OneFine Wrote GivenAndFailed old new down up × ReaderGoes e down up × ClientAwaits e down up old.report new.report
RunsLoop e old new down up (Err Bound) = OneFine Wrote GivenByMost old new down up × ReaderGoes e down up × ClientAwaits e down up old.report new.report
RunsLoop e old new down up (Err Write) =
    (OneFine WroteAndFailed WasGiven old new down up × ReaderGoes e down up × ClientAwaits e down up old.report new.report)
    ⊎ (BothFine old new down up × ReaderGoes e down up × ReportFailed e down up old.report new.report)
RunsLoop e old new down up (Err Memory) =
    (BothFine old new down up × ReaderGoes e down up × ((lines : List ℕ) × ClientBegins e down up lines × Wrote old.report new.report lines))
    ⊎ (BothFine old new down up × ReaderBegins e down up × ClientAwaits e down up old.report new.report)
RunsLoop e old new down up (Err _) = ⊥

-- What both ends did is so of some bytes on the two ways.
abbrev pub RunsBothEnds : Reader → List Entry → ℕ → Plan → Devices → Devices → Result Summary ToolErr → Type 0
RunsBothEnds reader entries limit plan old new answer = (down up : Traffic) × RunsLoop (record { reader = reader; entries = entries; limit = limit; plan = plan }) old new down up answer
