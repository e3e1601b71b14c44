-- Reading a source piece by piece, a bounded number of times.
use Rattle.std.specs.Prelude.{◌≡◌, ◌⊎◌, ℕ, ◌+◌, ◌≤◌, List, ◌++◌, Option, None, Some, Result, Ok, Err}
use Rattle.std.specs.Borrow.{Bor}
use Rattle.llrp_stream.specs.Device.{SourceLog, Gave}
use Rattle.llrp_listing.specs.declared.outcome.ToolErr.{ToolErr}
use Rattle.llrp_listing.specs.declared.outcome.ToolErr.TheVariants.{Read, Bound}
use Rattle.llrp_listing.specs.Copying.{GaveAndFailed}
use Rattle.llrp_endpoints.specs.RunInventory.{ReadAllWithin}

-- This many reads gave these bytes, and no more than there may be.
pub record GivenWithin (most : ℕ) (r0 r1 : SourceLog) (reads : ℕ) (bytes : List ℕ) : Type 0 where
  pub gave : Gave r0 r1 reads bytes
  pub few : reads ≤ most

-- After these bytes no piece came, with this error.
abbrev pub GivesNoneWithin : (most : ℕ) → SourceLog → SourceLog → List ℕ → ToolErr → Type 0
GivesNoneWithin most r0 r1 bytes e = ((e ≡ Read) × (n : ℕ) × GaveAndFailed r0 r1 n bytes) ⊎ ((e ≡ Bound) × Gave r0 r1 most bytes)

-- After these bytes came a piece, or the end, or an error.
abbrev pub IsNextWithin : (most : ℕ) → SourceLog → SourceLog → ℕ → List ℕ → Result (Option (Bor (List ℕ))) ToolErr → Type 0
IsNextWithin most r0 r1 reads before (Ok (Some piece)) = GivenWithin most r0 r1 (reads + 1) (before ++ piece.now)
IsNextWithin most r0 r1 reads before (Ok None) = ReadAllWithin most r0 r1 before
IsNextWithin most r0 r1 reads before (Err e) = GivesNoneWithin most r0 r1 before e
