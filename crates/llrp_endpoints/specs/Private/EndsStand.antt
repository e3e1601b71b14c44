-- What the two sides of a connection stand for, and what their calls make of them.
use Rattle.std.specs.Prelude.{◌≡◌, ℕ, ◌+◌, ◌<◌, ◌≤◌, ◌^◌, ◌⊎◌, List, [], ◌++◌, length, Result, Ok, Err, Bool, true, false}
use Rattle.llrp_tree.specs.Tree.{MessageTree}
use Rattle.llrp_stream.specs.Device.{SourceLog, SinkLog, Wrote}
use Rattle.llrp_listing.specs.declared.outcome.ToolErr.{ToolErr}
use Rattle.llrp_listing.specs.declared.outcome.ToolErr.TheVariants.{Read, Write, Bound, Broken, Memory, Peer, Strange, Early}
use Rattle.llrp_endpoints.specs.declared.course.Phase.TheVariants.{Closed, Failed}
use Rattle.llrp_session.specs.ReaderMachine.{Reader}
use Rattle.llrp_endpoints.specs.declared.both_ends.client_side.ClientSide.{ClientSide}
use Rattle.llrp_endpoints.specs.declared.both_ends.reader_side.ReaderSide.{ReaderSide}
use Rattle.llrp_endpoints.specs.declared.gathering.Gathering.{Gathering}
use Rattle.llrp_endpoints.specs.declared.script.Entry.{Entry}
use Rattle.llrp_endpoints.specs.declared.serving.Serving.{Serving}
use Rattle.llrp_endpoints.specs.declared.summary.Summary.{Summary}
use Rattle.llrp_listing.specs.Copying.{ReadAll, WasGiven}
use Rattle.llrp_listing.specs.Calls.Copying.{Given}
use Rattle.llrp_listing.specs.declared.devices.TheConstants.{MOST_READS}
use Rattle.llrp_endpoints.specs.Gathering.{Course}
use Rattle.llrp_endpoints.specs.Calls.GatheringStands.{IsOpen as Follows, Counts}
use Rattle.llrp_endpoints.specs.RunInventory.{Says, Ended}
use Rattle.llrp_endpoints.specs.RunLoop.{BothEnds, Traffic, GivenAndFailed, GivenByMost, ReaderSays, ReaderGoes, ReaderBegins, ClientAwaits, ClientBreaksOff, ClientEnded, ClientBegins, ReportFailed, SaidAll, Devices, RunsLoop}
use Rattle.llrp_endpoints.specs.Sending.{AreFrames}
use Rattle.llrp_endpoints.specs.Serving.{broken, closed, Serves}
use Rattle.llrp_endpoints.specs.Calls.ServingStands.{IsOpen, IsClosed}

-- ---- pieces

-- a front of what is left was written, at most a piece of it; nothing only where nothing is left
pub record WritesPiece (old new : List ℕ) (w0 w1 : SinkLog) (count : ℕ) : Type 0 where
  pub front : List ℕ
  pub parts : old ≡ front ++ new
  pub count_is : length front ≡ count
  pub a_piece : count ≤ 4096
  pub some : count ≡ 0 → old ≡ []
  pub wrote : Wrote w0 w1 front

-- there was no such read
abbrev pub ReadsNone : SourceLog → SourceLog → List ℕ → ToolErr → Type 0
ReadsNone r0 r1 bytes Read = GivenAndFailed r0 r1 bytes
ReadsNone r0 r1 bytes Bound = GivenByMost r0 r1 bytes
ReadsNone r0 r1 bytes Early = ReadAll r0 r1 bytes
ReadsNone r0 r1 bytes _ = ⊥

-- there is room in the counts of a source for all reads that are left
pub record HasRoom (log : SourceLog) (reads : ℕ) : Type 0 where
  pub few : reads ≤ MOST_READS
  pub reads_fit : log.reads < 2 ^ 63 + reads
  pub ends_fit : log.ends < 2 ^ 63
  pub failures_fit : log.failures < 2 ^ 63

-- this much is left of what was said
abbrev pub spoken : Traffic → List ℕ → Traffic
spoken bytes left = record bytes { unwritten = left }

-- this much was read
abbrev pub heard : Traffic → List ℕ → Traffic
heard bytes read = record bytes { read = read }

-- ---- the reader's side

-- serving takes bytes, or the client has closed the connection
abbrev pub IsServing : Reader → List Entry → List ℕ → List MessageTree → Serving → Type 0
IsServing reader entries bytes messages s = IsOpen reader entries bytes messages s ⊎ (IsClosed s × Serves reader entries bytes messages closed)

-- The reader read these bytes; of what it says to them this was written, and this is left.
pub record ReaderStands (e : BothEnds) (written read : List ℕ) (s : Serving) (left : List ℕ) : Type 0 where
  pub messages : List MessageTree
  pub serving : IsServing e.reader e.entries read messages s
  pub frames : AreFrames messages (written ++ left)

-- it stopped with this error
abbrev pub ReaderStops : BothEnds → SourceLog → SourceLog → Traffic → Traffic → ToolErr → Type 0
ReaderStops e r0 r1 down up Broken = WasGiven r0 r1 up.read × ReaderSays e broken down up
ReaderStops e r0 r1 down up Memory = WasGiven r0 r1 up.read × ReaderBegins e down up
ReaderStops e r0 r1 down up Read = GivenAndFailed r0 r1 up.read × ReaderGoes e down up
ReaderStops e r0 r1 down up Bound = GivenByMost r0 r1 up.read × ReaderGoes e down up
ReaderStops e r0 r1 down up Early = ReadAll r0 r1 up.read × ReaderGoes e down up
ReaderStops e r0 r1 down up _ = ⊥

-- It read this many bytes more, and took them; or it stopped before.
abbrev pub ReaderHears : BothEnds → SourceLog → SourceLog → Traffic → Traffic → ℕ → ReaderSide → Result (Unit {0}) ToolErr → Type 0
ReaderHears e r0 r1 down up count new (Ok u) =
    (bytes : List ℕ) × (length bytes ≡ count) × Given r0 r1 new.reads (up.read ++ bytes) × ReaderStands e down.written (up.read ++ bytes) new.serving new.said.items
ReaderHears e r0 r1 down up count new (Err error) =
    (bytes : List ℕ) × (length bytes ≤ count) × ReaderStops e r0 r1 (spoken down new.said.items) (heard up (up.read ++ bytes)) error

-- however it stood, of a source that gave what it had read, it did so
abbrev pub ReaderGoesOn : SourceLog → SourceLog → ReaderSide → ReaderSide → ℕ → Result (Unit {0}) ToolErr → Type 0
ReaderGoesOn r1 r2 old new count answer =
    (e : BothEnds) (r0 : SourceLog) (down up : Traffic) → ReaderStands e down.written up.read old.serving old.said.items
    → Given r0 r1 old.reads up.read → ReaderHears e r0 r2 down up count new answer

-- ---- the client's side

-- The client read these bytes; of what it says to them this was written, and this is left; all its lines were written.
pub record ClientStands (e : BothEnds) (written read : List ℕ) (p0 p1 : SinkLog) (g : Gathering) (left lines : List ℕ) : Type 0 where
  pub rest : List ℕ
  pub course : Course
  pub open_still : Follows e.limit e.plan read rest course g
  pub text : List ℕ
  pub says : Says course (written ++ left) text
  pub wrote : Wrote p0 p1 text
  pub none_left : lines ≡ []

-- it stopped with this error
abbrev pub ClientStops : BothEnds → SourceLog → SourceLog → SinkLog → SinkLog → Traffic → Traffic → ToolErr → Type 0
ClientStops e r0 r1 p0 p1 down up (Peer status) = WasGiven r0 r1 down.read × ClientEnded e (Failed (Peer status)) down up p0 p1
ClientStops e r0 r1 p0 p1 down up Strange = WasGiven r0 r1 down.read × ClientEnded e (Failed Strange) down up p0 p1
ClientStops e r0 r1 p0 p1 down up Early = (WasGiven r0 r1 down.read × ClientEnded e (Failed Early) down up p0 p1) ⊎ (ReadAll r0 r1 down.read × ClientAwaits e down up p0 p1)
ClientStops e r0 r1 p0 p1 down up Broken = WasGiven r0 r1 down.read × ClientBreaksOff e down up p0 p1
ClientStops e r0 r1 p0 p1 down up Memory = WasGiven r0 r1 down.read × (lines : List ℕ) × ClientBegins e down up lines × Wrote p0 p1 lines
ClientStops e r0 r1 p0 p1 down up Read = GivenAndFailed r0 r1 down.read × ClientAwaits e down up p0 p1
ClientStops e r0 r1 p0 p1 down up Bound = GivenByMost r0 r1 down.read × ClientAwaits e down up p0 p1
ClientStops e r0 r1 p0 p1 down up Write = WasGiven r0 r1 down.read × ReportFailed e down up p0 p1
ClientStops e r0 r1 p0 p1 down up _ = ⊥

-- It read this many bytes more, and took them; or the connection was closed as planned; or it stopped before.
abbrev pub ClientHears : BothEnds → SourceLog → SourceLog → SinkLog → SinkLog → Traffic → Traffic → ℕ → ClientSide → Result Bool ToolErr → Type 0
ClientHears e r0 r1 p0 p1 down up count new (Ok false) =
    (bytes : List ℕ) × (length bytes ≡ count) × Given r0 r1 new.reads (down.read ++ bytes) × ClientStands e up.written (down.read ++ bytes) p0 p1 new.gathering new.said.items new.lines.items
ClientHears e r0 r1 p0 p1 down up count new (Ok true) =
    (bytes : List ℕ) × (length bytes ≤ count) × WasGiven r0 r1 (down.read ++ bytes)
    × (course : Course) × Ended Closed e.limit e.plan (down.read ++ bytes) course × SaidAll course (spoken up new.said.items) p0 p1 × Counts course.reports new.gathering
ClientHears e r0 r1 p0 p1 down up count new (Err error) =
    (bytes : List ℕ) × (length bytes ≤ count) × ClientStops e r0 r1 p0 p1 (heard down (down.read ++ bytes)) (spoken up new.said.items) error

-- however it stood, of a source that gave what it had read, it did so
abbrev pub ClientGoesOn : SourceLog → SourceLog → SinkLog → SinkLog → ClientSide → ClientSide → ℕ → Result Bool ToolErr → Type 0
ClientGoesOn r1 r2 p1 p2 old new count answer =
    (e : BothEnds) (r0 : SourceLog) (p0 : SinkLog) (down up : Traffic) → ClientStands e up.written down.read p0 p1 old.gathering old.said.items old.lines.items
    → Given r0 r1 old.reads down.read → ClientHears e r0 r2 p0 p2 down up count new answer

-- ---- both

-- where neither has read or written anything, both ends did so
abbrev pub RunsFromStart : ReaderSide → ClientSide → Devices → Devices → Result Summary ToolErr → Type 0
RunsFromStart reader client old new answer =
    (e : BothEnds) → ReaderStands e [] [] reader.serving reader.said.items
    → ClientStands e [] [] old.report old.report client.gathering client.said.items client.lines.items
    → (down up : Traffic) × RunsLoop e old new down up answer
