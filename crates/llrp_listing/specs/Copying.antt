-- What it is to read all of a source, and to write all of a text.
use Rattle.std.specs.Prelude.{◌≡◌, ℕ, ◌+◌, ◌<◌, ◌≤◌, List, ◌++◌}
use Rattle.std.specs.Io.KnownBytes.{IsAtEnd, Consumes}
use Rattle.llrp_stream.specs.Device.{SourceLog, Gave}
use Rattle.llrp_listing.specs.declared.devices.TheConstants.{MOST_READS}

-- All that the source had left was read, until a read met its end.
pub record ReadAll (old new : SourceLog) (bytes : List ℕ) : Type 0 where
  pub reads : ℕ
  pub few : reads < MOST_READS
  pub counts : new ≡ record old { reads = old.reads + reads; ends = old.ends + 1; left = new.left }
  pub bytes_are : Consumes old.left new.left bytes
  pub all : IsAtEnd new.left

-- at most this many reads gave these bytes
abbrev pub WasGiven : SourceLog → SourceLog → List ℕ → Type 0
WasGiven old new bytes = (n : ℕ) × (n ≤ MOST_READS) × Gave old new n bytes

-- n reads gave these bytes, and then one failed
pub record GaveAndFailed (old new : SourceLog) (n : ℕ) (bytes : List ℕ) : Type 0 where
  pub counts : new ≡ record old { reads = old.reads + n; failures = old.failures + 1; left = new.left }
  pub bytes_are : Consumes old.left new.left bytes

-- the text begins with this front
abbrev pub IsPrefix : List ℕ → List ℕ → Type 0
IsPrefix front text = (back : List ℕ) × (text ≡ front ++ back)
