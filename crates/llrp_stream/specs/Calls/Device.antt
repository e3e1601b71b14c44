-- Beside Device: what contracts say that no promise rests on.
use Rattle.std.specs.Prelude.{◌≡◌, ℕ, ◌+◌, ◌^◌, ◌<◌, ◌≤◌, List, [], ◌∷◌, length, take, Option, Result, Ok, Err}
use Rattle.std.specs.Io.KnownBytes.{Appends, Consumes, IsAtEnd, Keeps}
use Rattle.llrp_stream.specs.Device.{SourceLog, SinkLog}

-- A read that gave these bytes: they were the first of those left. None is the end: nothing is left.
abbrev pub Took : SourceLog → SourceLog → List ℕ → Type 0
Took old new [] = (new ≡ record old { ends = old.ends + 1; left = new.left }) × Consumes old.left new.left [] × IsAtEnd new.left
Took old new (b ∷ bs) = (new ≡ record old { reads = old.reads + 1; left = new.left }) × Consumes old.left new.left (b ∷ bs)

-- a call of read on a buffer that isn't empty
abbrev pub ReadStep : {E : Type 0} → SourceLog → SourceLog → Result ℕ E → List ℕ → Type 0
ReadStep old new (Ok n) buf = (n ≤ length buf) × Took old new (take n buf)
ReadStep old new (Err e) buf = (new ≡ record old { failures = old.failures + 1; left = new.left }) × Keeps old.left new.left

-- there is room in the counts for one more call
pub record CanRead (log : SourceLog) : Type 0 where
  pub reads : log.reads + 1 < 2 ^ 64
  pub ends : log.ends + 1 < 2 ^ 64
  pub failures : log.failures + 1 < 2 ^ 64

-- there is room in the count for one more call that fails
abbrev pub CanWrite : SinkLog → Type 0
CanWrite log = log.failures + 1 < 2 ^ 64

-- A write that took these bytes. One that took none failed.
abbrev pub Put : SinkLog → SinkLog → List ℕ → Type 0
Put old new [] = (new ≡ record old { failures = old.failures + 1; taken = new.taken }) × Appends old.taken new.taken []
Put old new (b ∷ bs) = (new ≡ record old { taken = new.taken }) × Appends old.taken new.taken (b ∷ bs)

-- a call of write with bytes
abbrev pub WriteStep : {E : Type 0} → SinkLog → SinkLog → Result ℕ E → List ℕ → Type 0
WriteStep old new (Ok n) buf = (n ≤ length buf) × Put old new (take n buf)
WriteStep old new (Err e) buf = (new ≡ record old { failures = old.failures + 1; taken = new.taken }) × Keeps old.taken new.taken

-- a source and a sink that nothing was done with
abbrev pub new_source : Option (List ℕ) → SourceLog
new_source left = record { reads = 0; ends = 0; failures = 0; left = left }

abbrev pub new_sink : Option (List ℕ) → SinkLog
new_sink taken = record { failures = 0; taken = taken }
