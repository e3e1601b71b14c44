-- What stands at the beginning of a list of places.
use Rattle.std.specs.Prelude.{◌≡◌, ◌≢◌, ℕ, ◌<◌, ◌≤◌, List, length, slice_get, Option, Some, None}
use Rattle.llrp_capture.specs.Calls.Pieces.{at_place}

-- these octets stand first, and none at the place after them
pub record Leads (waiting : List (Option ℕ)) (octets : List ℕ) : Type 0 where
  pub has : (k : ℕ) → k < length octets → at_place waiting k ≡ slice_get octets k
  pub ends : at_place waiting (length octets) ≡ None
  pub within : length octets ≤ length waiting

-- the first `count` places are missing, and the one after them is not; or no octet came
abbrev pub AreMissing : List (Option ℕ) → Option ℕ → Type 0
AreMissing waiting None = (k : ℕ) → at_place waiting k ≡ None
AreMissing waiting (Some count) = ((k : ℕ) → k < count → at_place waiting k ≡ None) × (count < length waiting) × (at_place waiting count ≢ None)
