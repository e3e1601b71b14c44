-- One of the files that a command reads, by the answer.
use Rattle.std.specs.Prelude.{ℕ, List, Option, Result, Ok, Err}
use Rattle.llrp_stream.specs.Device.{SinkLog}
use Rattle.llrp_listing.specs.declared.outcome.ToolErr.{ToolErr}
use Rattle.llrp_words.specs.Calls.Asked.{Asked}
use Rattle.llrp_files.specs.Calls.Files.{FailedFile, Name, RanFile, Said, Standing, Unsaid}

-- a line was said whole, or a write failed
abbrev pub Says : Name → List ℕ → SinkLog → SinkLog → Result (Unit {0}) ToolErr → Type 0
Says name line e0 e1 (Ok u) = Said name line e0 e1
Says name line e0 e1 (Err error) = Unsaid name line e0 e1 error

-- a file's turn, by its answer
abbrev pub TakesFile : Standing → Asked → Name → Option (List ℕ) → Option (List ℕ) → SinkLog → SinkLog → Result ℕ ToolErr → Type 0
TakesFile stands asked name c0 c1 e0 e1 (Ok status) = RanFile stands asked name c0 c1 e0 e1 status
TakesFile stands asked name c0 c1 e0 e1 (Err error) = FailedFile stands asked name c0 c1 e0 e1 error
