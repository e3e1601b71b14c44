-- The whole frames at the front of what was read.
use Rattle.std.specs.Prelude.{◌≡◌, ℕ, ◌<◌, ◌≤◌, ◌⊎◌, List, ◌++◌, length}
use Rattle.std.specs.List.{AllByRecursion}
use Rattle.llrp_stream.specs.Cuts.{Breaks, IsFrame, IsPartial, joined, length_field}

-- no whole frame within the limit is at the front: there is less than a frame or what is no front of one, or a longer frame begins
abbrev pub HasNoFrame : ℕ → List ℕ → Type 0
HasNoFrame limit octets = IsPartial octets ⊎ (Breaks octets ⊎ (limit < length_field octets))

-- This many octets at the front are frames, each within the limit, and no other such frame follows them.
pub record BeginsWithFrames (limit : ℕ) (octets : List ℕ) (count : ℕ) : Type 0 where
  pub frames : List (List ℕ)
  pub rest : List ℕ
  pub parts : octets ≡ joined frames ++ rest
  pub each : AllByRecursion IsFrame frames
  pub short : AllByRecursion (λ frame. length frame ≤ limit) frames
  pub count_is : count ≡ length (joined frames)
  pub no_other : HasNoFrame limit rest
