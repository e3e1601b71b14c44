-- When a line of a script happens. Moments are in microseconds.
use Rattle.std.specs.Prelude.{ℕ, ◌+◌, ◌*◌, min, nat_le, Option, Some, None, if◌then◌else◌}
use Rattle.llrp_live.specs.declared.moments.Stage.{Stage}
use Rattle.llrp_live.specs.declared.moments.When.{When}
use Rattle.llrp_live.specs.declared.moments.When.TheVariants.{Frames, Accepted, Started}

-- a moment this many microseconds later; it stops at the greatest u64
abbrev pub later : ℕ → ℕ → ℕ
later moment wait = min (moment + wait) 18446744073709551615

-- later than a moment that may not be known yet
abbrev pub later_than : Option ℕ → ℕ → Option ℕ
later_than None wait = None
later_than (Some moment) wait = Some (later moment wait)

-- The moment of a line, if it is known yet: once its frames were taken 0, which is at once, or a time after the connection was
-- accepted, or after a ROSpec first became active.
abbrev pub moment_of : Stage → When → Option ℕ
moment_of s (Frames after now) = if nat_le after s.taken then Some 0 else None
moment_of s (Accepted wait) = Some (later s.accepted wait)
moment_of s (Started wait) = later_than s.started wait

-- the moment of a clock that runs at a rate, so long after it began
abbrev pub moment_in : ℕ → ℕ → ℕ → ℕ
moment_in began elapsed rate = min (began + elapsed * rate) 18446744073709551615
