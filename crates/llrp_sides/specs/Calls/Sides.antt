-- One side of a connection of which no octet is missing: what is listed of it is what `show` lists of its octets.
use Rattle.std.specs.Prelude.{◌≡◌, ℕ, ◌+◌, ◌<◌, ◌≤◌, ◌&&◌, true, List, [], ◌∷◌, ◌++◌, length, Option, Some, None}
use Rattle.llrp_capture.specs.declared.reassembly.Reassembly.{Reassembly}
use Rattle.llrp_capture.specs.declared.segment.Segment.{Segment}
use Rattle.llrp_capture.specs.Calls.Pieces.{Piece, IsPlace, octet_at}
use Rattle.llrp_capture.specs.Calls.Reassembly.{Stands as StandsFor}
use Rattle.llrp_listing.specs.declared.outcome.Verdict.{Verdict}
use Rattle.llrp_sides.specs.declared.form.Form.{Form}
use Rattle.llrp_sides.specs.declared.stamp.Stamp.{Stamp}
use Rattle.llrp_sides.specs.declared.side.Side.{Side}
use Rattle.llrp_sides.specs.Calls.Blocks.{AreBlocks}
use Rattle.llrp_sides.specs.Calls.Firsts.{first_of, is_syn}
use Rattle.llrp_sides.specs.Calls.Stretches.{EndsWith, Stands}
use Rattle.llrp_sides.specs.Calls.Verdicts.{says_lawful}

-- these pieces came from the octet at a place on, and have these octets without a gap; or no segment came
abbrev pub Gathers : Option Reassembly → List Piece → (start : ℕ) → (octets : List ℕ) → Type 0
Gathers None pieces start octets = (pieces ≡ []) × (octets ≡ [])
Gathers (Some reassembly) pieces start octets = StandsFor pieces start octets reassembly

-- The segments of a side have these pieces, which have these octets without a gap, and this is listed of the octets.
pub record Holds (side : Side) (pieces : List Piece) (start : ℕ) (octets listing : List ℕ) : Type 0 where
  pub gathers : Gathers side.reassembly pieces start octets
  pub passed : side.passed ≡ None
  pub stands : Stands side.stretch octets listing

-- Nothing came of a side, which is listed in this form.
pub record IsNewSide (form : Form) (side : Side) : Type 0 where
  pub holds : (start : ℕ) → Holds side [] start [] []
  pub lawful : side.is_lawful ≡ true
  pub form_is : side.stretch.form ≡ form

-- the place of the first octet: that of the first segment, or as before
abbrev pub StartsAt : Option Reassembly → (sequence start now : ℕ) → Type 0
StartsAt None sequence start now = IsPlace now sequence now
StartsAt (Some reassembly) sequence start now = now ≡ start

-- octets at a place are a piece more, if there are any
abbrev pub with_piece : (octets : List ℕ) → (place : ℕ) → List Piece → List Piece
with_piece [] place pieces = pieces
with_piece (octet ∷ octets) place pieces = pieces ++ record { place = place; octets = octet ∷ octets } ∷ []

abbrev pub CameAt : (octets : List ℕ) → (here sequence place : ℕ) → Type 0
CameAt [] here sequence place = Unit {0}
CameAt (octet ∷ octets) here sequence place = IsPlace here sequence place

-- A segment came, and what is listed of its octets with those before is appended to a text, block by block.
pub record TakesPiece (stamp : Stamp) (segment : Segment) (old new : Side) (text0 text1 : List ℕ) (pieces : List Piece) (start : ℕ) (octets listing : List ℕ) : Type 0 where
  pub begin : ℕ
  pub begins : StartsAt old.reassembly (first_of segment) start begin
  pub place : ℕ
  pub came : CameAt segment.octets.items (begin + length octets) (first_of segment) place
  pub more : List ℕ
  pub shown : List ℕ
  pub now : Holds new (with_piece segment.octets.items place pieces) begin (octets ++ more) (listing ++ shown)
  pub blocks : AreBlocks new.stretch.form.json stamp shown text0 text1
  pub lawful : new.is_lawful ≡ old.is_lawful

-- octets with this sequence number are no further ahead of the next octet than 64 KiB
abbrev pub IsNear : (here sequence : ℕ) → (octets : List ℕ) → Type 0
IsNear here sequence octets = (place : ℕ) → IsPlace here sequence place → here < place → place + length octets ≤ here + 65536

-- no octet is missing because of a segment: the first one has SYN, and each other is near enough
abbrev pub MayCome : Option Reassembly → Segment → (here : ℕ) → Type 0
MayCome None segment here = is_syn segment.flags ≡ true
MayCome (Some reassembly) segment here = IsNear here (first_of segment) segment.octets.items

-- whatever came before
abbrev pub TakesSegment : Stamp → Segment → (old new : Side) → (text0 text1 : List ℕ) → Type 0
TakesSegment stamp segment old new text0 text1 = (pieces : List Piece) (start : ℕ) (octets listing : List ℕ) → Holds old pieces start octets listing → MayCome old.reassembly segment (start + length octets)
    → TakesPiece stamp segment old new text0 text1 pieces start octets listing

-- no octet came from a place on
abbrev pub HasNoneFrom : List Piece → (here : ℕ) → Type 0
HasNoneFrom pieces here = (k : ℕ) → octet_at pieces (here + k) ≡ None

-- Where nothing waits after a gap, what was listed of a side, with what is appended at its end, is what `show` lists of its octets.
pub record EndsSide (stamp : Stamp) (old new : Side) (text0 text1 : List ℕ) : Type 0 where
  pub ends : (pieces : List Piece) (start : ℕ) (octets listing : List ℕ) → Holds old pieces start octets listing → HasNoneFrom pieces (start + length octets)
      → (verdict : Verdict) × EndsWith stamp octets listing verdict old.stretch text0 text1 × (new.is_lawful ≡ (old.is_lawful && says_lawful verdict))
