-- How a refusal of what was sent beside a plan ends a connection.
use Rattle.std.specs.Prelude.{◌≡◌, ℕ, ◌+◌, List, take, Option, None, Some, Result, Ok, Err}
use Rattle.llrp_stream.specs.Device.{SourceLog}
use Rattle.llrp_listing.specs.declared.outcome.ToolErr.TheVariants.{Peer}
use Rattle.llrp.specs.declared.faults.FaultFinder.{FaultFinder}
use Rattle.llrp.specs.declared.powered.Stopped.{Stopped}
use Rattle.llrp.specs.declared.powered.Stopped.TheVariants.{Run}
use Rattle.llrp.specs.Calls.Refusals.{Hears}

-- it heard what a read gave
abbrev pub HearsRead : {E : Type 0} → Result ℕ E → List ℕ → FaultFinder → FaultFinder → Type 0
HearsRead (Ok n) buf old new = Hears (take n buf) old new
HearsRead (Err e) buf old new = new ≡ old

-- the log of a source, where this many more reads failed
abbrev pub stopped : ℕ → SourceLog → SourceLog
stopped stops log = record log { failures = stops + log.failures }

-- how a connection ended: a refusal comes before all else
abbrev pub ended_by : Option ℕ → Result (Unit {0}) Stopped → Result (Unit {0}) Stopped
ended_by None outcome = outcome
ended_by (Some status) outcome = Err (Run (Peer status))
