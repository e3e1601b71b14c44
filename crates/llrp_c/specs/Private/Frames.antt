-- How the whole frames of a stream are found.
use Rattle.std.specs.Prelude.{◌≡◌, ℕ, ◌≤◌, Bool, true, false, List, length, take}
use Rattle.std.specs.List.{AllByRecursion}
use Rattle.llrp_stream.specs.Cuts.{Breaks, IsFrame, IsPartial, joined}

-- what is left after the whole frames of a stream
abbrev pub IsLeft : Bool → List ℕ → Type 0
IsLeft false rest = IsPartial rest
IsLeft true rest = Breaks rest

-- the first octets of a stream are frames
pub record AreFrames (stream : List ℕ) (octets : ℕ) : Type 0 where
  pub within : octets ≤ length stream
  pub frames : List (List ℕ)
  pub each : AllByRecursion IsFrame frames
  pub joined_are : take octets stream ≡ joined frames

-- the first frame of a stream has this many octets, or the stream breaks at its first one
abbrev pub IsFirst : List ℕ → ℕ → Bool → Type 0
IsFirst stream octets false = (octets ≤ length stream) × IsFrame (take octets stream)
IsFirst stream octets true = (octets ≡ 0) × Breaks stream
