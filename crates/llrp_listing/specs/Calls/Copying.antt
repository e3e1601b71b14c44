-- Beside Copying: what contracts say that no promise rests on.
use Rattle.std.specs.Prelude.{◌≡◌, ◌⊎◌, ℕ, ◌+◌, ◌≤◌, List, ◌++◌, Option, None, Some, Result, Ok, Err}
use Rattle.std.specs.Borrow.{Bor}
use Rattle.llrp_listing.specs.declared.outcome.ToolErr.{ToolErr}
use Rattle.llrp_listing.specs.declared.outcome.ToolErr.TheVariants.{Read, Write, Bound, Memory}
use Rattle.llrp_stream.specs.Device.{SourceLog, SinkLog, Gave, Wrote, WroteAndFailed}
use Rattle.llrp_listing.specs.Copying.{GaveAndFailed, IsPrefix, ReadAll}
use Rattle.llrp_listing.specs.declared.devices.TheConstants.{MOST_READS}

-- Reading stopped with this error, after these bytes.
abbrev pub ReadStopped : SourceLog → SourceLog → List ℕ → ToolErr → Type 0
ReadStopped old new bytes Read = (n : ℕ) × GaveAndFailed old new n bytes
ReadStopped old new bytes Bound = Gave old new MOST_READS bytes
ReadStopped old new bytes Memory = (n : ℕ) × Gave old new n bytes
ReadStopped old new bytes _ = ⊥

-- This many reads gave these bytes, and no more than there may be.
pub record Given (r0 r1 : SourceLog) (reads : ℕ) (bytes : List ℕ) : Type 0 where
  pub gave : Gave r0 r1 reads bytes
  pub few : reads ≤ MOST_READS

-- After these bytes no piece came, with this error.
abbrev pub GivesNone : SourceLog → SourceLog → List ℕ → ToolErr → Type 0
GivesNone r0 r1 bytes e = ((e ≡ Read) × (n : ℕ) × GaveAndFailed r0 r1 n bytes) ⊎ ((e ≡ Bound) × Gave r0 r1 MOST_READS bytes)

-- After these bytes came a piece, or the end, or an error.
abbrev pub IsNext : SourceLog → SourceLog → ℕ → List ℕ → Result (Option (Bor (List ℕ))) ToolErr → Type 0
IsNext r0 r1 reads before (Ok (Some piece)) = Given r0 r1 (reads + 1) (before ++ piece.now)
IsNext r0 r1 reads before (Ok None) = ReadAll r0 r1 before
IsNext r0 r1 reads before (Err e) = GivesNone r0 r1 before e

-- Writing stopped with this error, after these bytes.
abbrev pub WriteStopped : SinkLog → SinkLog → List ℕ → ToolErr → Type 0
WriteStopped old new front Write = WroteAndFailed old new front
WriteStopped old new front _ = ⊥

-- All the bytes were written, or a front of them where writing stopped.
abbrev pub Writes : List ℕ → SinkLog → SinkLog → Result (Unit {0}) ToolErr → Type 0
Writes bytes old new (Ok u) = Wrote old new bytes
Writes bytes old new (Err e) = (front : List ℕ) × IsPrefix front bytes × WriteStopped old new front e
