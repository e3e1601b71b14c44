-- What one side of a connection has handed on after some segments, and what waits.
use Rattle.std.specs.Prelude.{◌≡◌, ◌≢◌, ℕ, ◌+◌, ◌-◌, ◌<◌, ◌≤◌, List, [], ◌∷◌, ◌++◌, length, Option, Some, None}
use Rattle.llrp_capture.specs.declared.reassembly.Reassembly.{Reassembly}
use Rattle.llrp_capture.specs.declared.reassembly.Took.{Took}
use Rattle.llrp_capture.specs.declared.reassembly.Took.TheVariants.{Taken, Beyond}
use Rattle.llrp_capture.specs.Calls.Pieces.{Piece, octet_at, IsRun, IsPlace, at_place}

-- no more waits than may
pub record IsSound (side : Reassembly) : Type 0 where
  pub low : 4294967296 ≤ side.here
  pub few : length side.waiting.items ≤ 65536

-- These pieces came, the side began with the octet at a place, and handed on these octets from there on. What waits is what the pieces have
-- further on.
pub record Stands (pieces : List Piece) (start : ℕ) (handed : List ℕ) (side : Reassembly) : Type 0 where
  pub here : side.here ≡ start + length handed
  pub run : IsRun pieces start handed
  pub waits : (k : ℕ) → octet_at pieces (start + length handed + k) ≡ at_place side.waiting.items k

-- nothing came yet, and the octet with this sequence number is the first
pub record Begins (sequence : ℕ) (side : Reassembly) : Type 0 where
  pub place : IsPlace side.here sequence side.here
  pub nothing : Stands [] side.here [] side

-- a piece more came, and more octets are handed on
abbrev pub Continues : Piece → (more : List ℕ) → (old new : Reassembly) → Type 0
Continues piece more old new = (pieces : List Piece) (start : ℕ) (handed : List ℕ) → Stands pieces start handed old → Stands (pieces ++ piece ∷ []) start (handed ++ more) new

-- the segment is taken as a piece at its place, or it reaches too far beyond the next octet
abbrev pub Takes : Took → (sequence : ℕ) (octets : List ℕ) (old new : Reassembly) (before after : List ℕ) → Type 0
Takes Taken sequence octets old new before after = (place : ℕ) × IsPlace old.here sequence place
    × (more : List ℕ) × (after ≡ before ++ more) × Continues (record { place = place; octets = octets }) more old new
Takes Beyond sequence octets old new before after = (place : ℕ) × IsPlace old.here sequence place
    × (old.here < place) × (old.here + 65536 < place + length octets) × (new ≡ old) × (after ≡ before)

-- no octet waits
abbrev pub NothingWaits : Reassembly → Type 0
NothingWaits side = (k : ℕ) → at_place side.waiting.items k ≡ None

-- The next `lost` octets did not come. The side goes on after them, as one that begins there, and hands on more.
pub record GoesOn (lost : ℕ) (more : List ℕ) (old new : Reassembly) : Type 0 where
  pub none : (k : ℕ) → k < lost → at_place old.waiting.items k ≡ None
  pub stands : (pieces : List Piece) (start : ℕ) (handed : List ℕ) → Stands pieces start handed old → Stands pieces (start + length handed + lost) more new

-- a gap is given up, so that at least one octet that waits is handed on; or none waits
abbrev pub GivesUp : Option ℕ → (old new : Reassembly) (before after : List ℕ) → Type 0
GivesUp None old new before after = NothingWaits old × (new ≡ old) × (after ≡ before)
GivesUp (Some lost) old new before after = (more : List ℕ) × (after ≡ before ++ more) × (more ≢ []) × GoesOn lost more old new

-- where no octet waits, the side goes on at the place of a segment, if that is further on
abbrev pub SkipsTo : (sequence lost : ℕ) (old new : Reassembly) → Type 0
SkipsTo sequence lost old new = (place : ℕ) × IsPlace old.here sequence place × (lost ≡ place - old.here) × GoesOn lost [] old new
