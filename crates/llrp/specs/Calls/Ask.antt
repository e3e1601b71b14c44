-- How `ask` reads its file, and asks a reader over a socket; std's contracts say neither what a socket has left to read nor what it took.
use Rattle.std.specs.Prelude.{ℕ, ◌⊎◌, Bool, List, None, Result}
use Rattle.llrp_stream.specs.Device.{SourceLog, SinkLog}
use Rattle.llrp_stream.specs.Calls.Device.{new_sink, new_source}
use Rattle.llrp_listing.specs.declared.outcome.ToolErr.{ToolErr}
use Rattle.llrp_listing.specs.declared.outcome.ToolErr.TheVariants.{Listing, Memory}
use Rattle.llrp_listing.specs.declared.outcome.Verdict.{Verdict}
use Rattle.llrp_listing.specs.Copying.{ReadAll}
use Rattle.llrp_listing.specs.Calls.Copying.{ReadStopped}
use Rattle.llrp_texts.specs.declared.texts.TextErr.TheVariants as text
use Rattle.llrp_ask.specs.declared.ask.Manner.{Manner}
use Rattle.llrp_ask.specs.declared.step.Step.{Step}
use Rattle.llrp_ask.specs.Calls.File.{IsFile}
use Rattle.llrp_ask.specs.Calls.Files.{RefusesFile}
use Rattle.llrp_ask.specs.Calls.Run.{Asks}

-- a file is refused at a line, or memory ran out
abbrev pub RefusesSteps : Bool → List ℕ → ToolErr → Type 0
RefusesSteps raw bytes (Listing line reason) = RefusesFile raw bytes (text.Line line reason)
RefusesSteps raw bytes Memory = Unit {0}
RefusesSteps raw bytes _ = ⊥

-- all that the source gave was read, and these are its steps
abbrev pub ReadsSteps : Bool → SourceLog → SourceLog → List Step → Type 0
ReadsSteps raw r0 r1 steps = (bytes : List ℕ) × ReadAll r0 r1 bytes × IsFile raw bytes steps

-- why there are none: reading stopped, or all was read and is refused
abbrev pub ReadsNoSteps : Bool → SourceLog → SourceLog → ToolErr → Type 0
ReadsNoSteps raw r0 r1 error = (bytes : List ℕ) × (ReadStopped r0 r1 bytes error ⊎ (ReadAll r0 r1 bytes × RefusesSteps raw bytes error))

-- A client asked so, over a source and a sink of which nothing was read or written before. These are the logs of what it shows.
abbrev pub AsksReader : Manner → List Step → SinkLog → SinkLog → Result Verdict ToolErr → Type 0
AsksReader manner steps p0 p1 outcome = (source : SourceLog) × (sink : SinkLog) × Asks manner steps (new_source None) source (new_sink None) sink p0 p1 outcome
