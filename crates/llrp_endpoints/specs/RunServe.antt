-- What serving a client reads and writes.
use Rattle.std.specs.Prelude.{ℕ, ◌⊎◌, List, Result, Ok, Err}
use Rattle.llrp_tree.specs.Tree.{MessageTree}
use Rattle.llrp_stream.specs.Device.{SourceLog, SinkLog, Gave, Wrote, WroteAndFailed}
use Rattle.llrp_session.specs.ReaderMachine.{Reader}
use Rattle.llrp_listing.specs.declared.outcome.ToolErr.{ToolErr}
use Rattle.llrp_listing.specs.declared.outcome.ToolErr.TheVariants.{Read, Write, Bound, Broken, Memory, Early}
use Rattle.llrp_endpoints.specs.declared.script.Entry.{Entry}
use Rattle.llrp_listing.specs.Copying.{ReadAll, GaveAndFailed, IsPrefix, WasGiven}
use Rattle.llrp_listing.specs.declared.devices.TheConstants.{MOST_READS}
use Rattle.llrp_endpoints.specs.Sending.{AreFrames}
use Rattle.llrp_endpoints.specs.Serving.{Standing, waiting, closed, ended, early, broken, Serves, BeginsServing}

-- All that is said to these bytes was written, and serving is in this state.
pub record ServedAll (Says : List ℕ → List MessageTree → Standing → Type 0) (bytes : List ℕ) (standing : Standing) (old new : SinkLog) : Type 0 where
  pub messages : List MessageTree
  pub text : List ℕ
  pub says : Says bytes messages standing
  pub frames : AreFrames messages text
  pub wrote : Wrote old new text

-- these are the frames of the first messages that are said to the bytes
abbrev pub FirstFrames : (List ℕ → List MessageTree → Type 0) → List ℕ → List ℕ → Type 0
FirstFrames Begins bytes text = (messages : List MessageTree) × Begins bytes messages × AreFrames messages text

-- What serving did, by its answer, where this is what it says to bytes, and what the first of that is. A clean end and Early come only where a read
-- met the source's end; after every other read all that it says to the bytes so far was written.
abbrev pub RunsSaying : (List ℕ → List MessageTree → Standing → Type 0) → (List ℕ → List MessageTree → Type 0) → SourceLog → SourceLog → SinkLog → SinkLog → List ℕ → Result (Unit {0}) ToolErr → Type 0
RunsSaying Says Begins r0 r1 w0 w1 bytes (Ok u) = (WasGiven r0 r1 bytes × ServedAll Says bytes closed w0 w1) ⊎ (ReadAll r0 r1 bytes × ServedAll Says bytes ended w0 w1)
RunsSaying Says Begins r0 r1 w0 w1 bytes (Err Early) = ReadAll r0 r1 bytes × ServedAll Says bytes early w0 w1
RunsSaying Says Begins r0 r1 w0 w1 bytes (Err Broken) = WasGiven r0 r1 bytes × ServedAll Says bytes broken w0 w1
RunsSaying Says Begins r0 r1 w0 w1 bytes (Err Read) = ((n : ℕ) × GaveAndFailed r0 r1 n bytes) × ServedAll Says bytes waiting w0 w1
RunsSaying Says Begins r0 r1 w0 w1 bytes (Err Bound) = Gave r0 r1 MOST_READS bytes × ServedAll Says bytes waiting w0 w1
RunsSaying Says Begins r0 r1 w0 w1 bytes (Err Write) = WasGiven r0 r1 bytes × (text front : List ℕ) × FirstFrames Begins bytes text × IsPrefix front text × WroteAndFailed w0 w1 front
RunsSaying Says Begins r0 r1 w0 w1 bytes (Err Memory) = WasGiven r0 r1 bytes × (text : List ℕ) × FirstFrames Begins bytes text × Wrote w0 w1 text
RunsSaying Says Begins r0 r1 w0 w1 bytes (Err _) = ⊥

-- ---- the same of a reader and a script

abbrev pub BeginsFrames : Reader → List Entry → List ℕ → List ℕ → Type 0
BeginsFrames reader entries bytes text = FirstFrames (BeginsServing reader entries) bytes text

abbrev pub RunsServe : Reader → List Entry → SourceLog → SourceLog → SinkLog → SinkLog → List ℕ → Result (Unit {0}) ToolErr → Type 0
RunsServe reader entries r0 r1 w0 w1 bytes answer = RunsSaying (Serves reader entries) (BeginsServing reader entries) r0 r1 w0 w1 bytes answer
