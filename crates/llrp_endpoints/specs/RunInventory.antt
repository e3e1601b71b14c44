-- What a client that follows a plan reads and writes.
use Rattle.std.specs.Prelude.{◌≡◌, ℕ, ◌⊎◌, ◌+◌, ◌<◌, ◌≤◌, List, ◌++◌, Result, Ok, Err}
use Rattle.std.specs.Io.KnownBytes.{IsAtEnd, Consumes}
use Rattle.llrp_tree.specs.Tree.{Tree, MessageTree}
use Rattle.llrp_stream.specs.Cuts.{IsPartial, Breaks}
use Rattle.llrp_stream.specs.Device.{SourceLog, SinkLog, Gave, Wrote, WroteAndFailed}
use Rattle.llrp_listing.specs.declared.outcome.ToolErr.{ToolErr}
use Rattle.llrp_listing.specs.declared.outcome.ToolErr.TheVariants.{Read, Write, Bound, Broken, Memory, Peer, Strange, Early}
use Rattle.llrp_endpoints.specs.declared.course.Phase.{Phase}
use Rattle.llrp_endpoints.specs.declared.course.Phase.TheVariants.{Open, Closed, Failed}
use Rattle.llrp_endpoints.specs.declared.summary.Summary.{Summary}
use Rattle.llrp_listing.specs.Copying.{GaveAndFailed, IsPrefix}
use Rattle.llrp_listing.specs.declared.devices.TheConstants.{MOST_READS}
use Rattle.llrp_endpoints.specs.declared.inventory.TheConstants.{MOST_LASTING_READS}
use Rattle.llrp_endpoints.specs.Asides.{all_said}
use Rattle.llrp_endpoints.specs.Gathering.{Course, Gathers}
use Rattle.llrp_endpoints.specs.Gathering.{closing_text}
use Rattle.llrp_endpoints.specs.Plan.{Plan}
use Rattle.llrp_endpoints.specs.Sending.{AreFrames}
use Rattle.llrp_endpoints.specs.TagLines.{AreReports, summary_of}

-- ---- what a course says

-- The frames of all that was sent, and the lines of all reports, with the last line where the connection was closed.
pub record Says (course : Course) (frames text : List ℕ) : Type 0 where
  pub frames_are : AreFrames (all_said course.asides course.sent) frames
  pub lines : List ℕ
  pub lines_are : AreReports course.form course.reports lines
  pub text_is : text ≡ lines ++ closing_text course.form course.phase course.reports

-- The frames of the first messages that were sent, and the lines of the first reports.
pub record SaysSome (course : Course) (frames text : List ℕ) : Type 0 where
  pub messages : List MessageTree
  pub later_messages : List MessageTree
  pub sent_are : all_said course.asides course.sent ≡ messages ++ later_messages
  pub frames_are : AreFrames messages frames
  pub reports : List (List Tree)
  pub later_reports : List (List Tree)
  pub reports_are : course.reports ≡ reports ++ later_reports
  pub lines_are : AreReports course.form reports text

-- ---- what was read

-- at most this many reads gave these bytes
abbrev pub WasGivenWithin : (most : ℕ) → SourceLog → SourceLog → List ℕ → Type 0
WasGivenWithin most old new bytes = (n : ℕ) × (n ≤ most) × Gave old new n bytes

-- All that the source had left was read in fewer reads than `most`, until a read met its end.
pub record ReadAllWithin (most : ℕ) (old new : SourceLog) (bytes : List ℕ) : Type 0 where
  pub reads : ℕ
  pub few : reads < most
  pub counts : new ≡ record old { reads = old.reads + reads; ends = old.ends + 1; left = new.left }
  pub bytes_are : Consumes old.left new.left bytes
  pub all : IsAtEnd new.left

-- ---- how far a course is

-- all items of the bytes' frames were taken, and further bytes are awaited
abbrev pub AwaitsBytes : ℕ → Plan → List ℕ → Course → Type 0
AwaitsBytes limit plan bytes course = (rest : List ℕ) × Gathers limit plan bytes rest course × (course.phase ≡ Open) × IsPartial rest

-- all items of the bytes' frames were taken, and then a length field is below 10
abbrev pub BreaksOff : ℕ → Plan → List ℕ → Course → Type 0
BreaksOff limit plan bytes course = (rest : List ℕ) × Gathers limit plan bytes rest course × (course.phase ≡ Open) × Breaks rest

-- the items of the bytes' first frames were taken, of which the last ended it so; what follows is dropped
abbrev pub Ended : Phase → ℕ → Plan → List ℕ → Course → Type 0
Ended phase limit plan bytes course = (rest : List ℕ) × Gathers limit plan bytes rest course × (course.phase ≡ phase)

-- ---- what was written

-- all that the course says
abbrev pub WroteAll : Course → SinkLog → SinkLog → SinkLog → SinkLog → Type 0
WroteAll course w0 w1 t0 t1 = (frames text : List ℕ) × Says course frames text × Wrote w0 w1 frames × Wrote t0 t1 text

-- The client says so to the items of some first frames of the bytes, or it says more, of which memory ran out.
abbrev pub BeginsSaying : ℕ → Plan → List ℕ → List ℕ → List ℕ → Type 0
BeginsSaying limit plan bytes frames text = (rest : List ℕ) × (course : Course) × Gathers limit plan bytes rest course × (Says course frames text ⊎ SaysSome course frames text)

-- one of the sinks failed, after a front of what it was to take; the other took a front, or all
abbrev pub StoppedWriting : List ℕ → List ℕ → SinkLog → SinkLog → SinkLog → SinkLog → Type 0
StoppedWriting frames text w0 w1 t0 t1 =
    (front : List ℕ) × ((IsPrefix front frames × WroteAndFailed w0 w1 front × (before : List ℕ) × IsPrefix before text × Wrote t0 t1 before) ⊎ (IsPrefix front text × WroteAndFailed t0 t1 front × Wrote w0 w1 frames))

-- ---- a run

-- What a run of at most this many reads did, by its answer. Ok comes only with the closing that is awaited, and its numbers are those of all reports.
-- Early comes where a read met the source's end before, or the connection was closed before. After every read all that the
-- client says to the bytes so far was written before the next.
abbrev pub RunsInventoryWithin : (most : ℕ) → ℕ → Plan → SourceLog → SourceLog → SinkLog → SinkLog → SinkLog → SinkLog → List ℕ → Result Summary ToolErr → Type 0
RunsInventoryWithin most limit plan r0 r1 w0 w1 t0 t1 bytes (Ok summary) = WasGivenWithin most r0 r1 bytes × (course : Course) × Ended Closed limit plan bytes course × WroteAll course w0 w1 t0 t1 × (summary ≡ summary_of course.reports)
RunsInventoryWithin most limit plan r0 r1 w0 w1 t0 t1 bytes (Err Early) =
    (course : Course) × WroteAll course w0 w1 t0 t1 × ((ReadAllWithin most r0 r1 bytes × AwaitsBytes limit plan bytes course) ⊎ (WasGivenWithin most r0 r1 bytes × Ended (Failed Early) limit plan bytes course))
RunsInventoryWithin most limit plan r0 r1 w0 w1 t0 t1 bytes (Err (Peer status)) = WasGivenWithin most r0 r1 bytes × (course : Course) × Ended (Failed (Peer status)) limit plan bytes course × WroteAll course w0 w1 t0 t1
RunsInventoryWithin most limit plan r0 r1 w0 w1 t0 t1 bytes (Err Strange) = WasGivenWithin most r0 r1 bytes × (course : Course) × Ended (Failed Strange) limit plan bytes course × WroteAll course w0 w1 t0 t1
RunsInventoryWithin most limit plan r0 r1 w0 w1 t0 t1 bytes (Err Broken) = WasGivenWithin most r0 r1 bytes × (course : Course) × BreaksOff limit plan bytes course × WroteAll course w0 w1 t0 t1
RunsInventoryWithin most limit plan r0 r1 w0 w1 t0 t1 bytes (Err Read) = ((n : ℕ) × GaveAndFailed r0 r1 n bytes) × (course : Course) × AwaitsBytes limit plan bytes course × WroteAll course w0 w1 t0 t1
RunsInventoryWithin most limit plan r0 r1 w0 w1 t0 t1 bytes (Err Bound) = Gave r0 r1 most bytes × (course : Course) × AwaitsBytes limit plan bytes course × WroteAll course w0 w1 t0 t1
RunsInventoryWithin most limit plan r0 r1 w0 w1 t0 t1 bytes (Err Write) = WasGivenWithin most r0 r1 bytes × (frames text : List ℕ) × BeginsSaying limit plan bytes frames text × StoppedWriting frames text w0 w1 t0 t1
RunsInventoryWithin most limit plan r0 r1 w0 w1 t0 t1 bytes (Err Memory) = WasGivenWithin most r0 r1 bytes × (frames text : List ℕ) × BeginsSaying limit plan bytes frames text × Wrote w0 w1 frames × Wrote t0 t1 text
RunsInventoryWithin most limit plan r0 r1 w0 w1 t0 t1 bytes (Err _) = ⊥

-- a run of as many reads as a command makes
abbrev pub RunsInventory : ℕ → Plan → SourceLog → SourceLog → SinkLog → SinkLog → SinkLog → SinkLog → List ℕ → Result Summary ToolErr → Type 0
RunsInventory limit plan r0 r1 w0 w1 t0 t1 bytes answer = RunsInventoryWithin MOST_READS limit plan r0 r1 w0 w1 t0 t1 bytes answer

-- a run that lasts: it makes as many reads as can be counted
abbrev pub RunsLasting : ℕ → Plan → SourceLog → SourceLog → SinkLog → SinkLog → SinkLog → SinkLog → List ℕ → Result Summary ToolErr → Type 0
RunsLasting limit plan r0 r1 w0 w1 t0 t1 bytes answer = RunsInventoryWithin MOST_LASTING_READS limit plan r0 r1 w0 w1 t0 t1 bytes answer
