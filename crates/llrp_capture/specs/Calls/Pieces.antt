-- What the segments of one side of a connection have, octet by octet (RFC 9293, sections 3.4 and 3.10.7.4: sequence numbers, and segments
-- that repeat or overlap others).
use Rattle.std.specs.Prelude.{◌≡◌, ℕ, ◌+◌, ◌-◌, ◌%◌, ◌<◌, ◌≤◌, nat_le, if◌then◌else◌, List, [], ◌∷◌, length, slice_get, slice_index_or, Option, Some, None}

-- The octets of a segment stand at places in a row, the first of them at this one. Places are numbers without an end.
pub record Piece : Type 0 where
  pub place : ℕ
  pub octets : List ℕ

-- the octet that a piece has at a place
abbrev pub octet_in : Piece → ℕ → Option ℕ
octet_in p at = if nat_le p.place at then slice_get p.octets (at - p.place) else None

-- the first of two that is there
abbrev pub or_else : Option ℕ → Option ℕ → Option ℕ
or_else (Some x) other = Some x
or_else None other = other

-- the octet that pieces have at a place: that of the first of them that has one
abbrev pub octet_at : List Piece → ℕ → Option ℕ
octet_at [] at = None
octet_at (p ∷ ps) at = or_else (octet_in p at) (octet_at ps at)

-- what pieces have from a place on, up to the first place at which none of them has an octet
pub record IsRun (pieces : List Piece) (start : ℕ) (octets : List ℕ) : Type 0 where
  pub has : (k : ℕ) → k < length octets → octet_at pieces (start + k) ≡ slice_get octets k
  pub ends : octet_at pieces (start + length octets) ≡ None

-- A place has its remainder by 2^32 as its sequence number, and of the places with a number the one nearest to the next octet's is meant.
pub record IsPlace (here sequence place : ℕ) : Type 0 where
  pub number : place % 4294967296 ≡ sequence
  pub ahead : place < here + 2147483648
  pub after : here ≤ place + 2147483648

-- the octet at a place of a list
abbrev pub at_place : List (Option ℕ) → ℕ → Option ℕ
at_place waiting k = slice_index_or waiting k None
