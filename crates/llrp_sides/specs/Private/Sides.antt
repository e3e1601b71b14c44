-- What the steps of a side do to it, and to the text.
use Rattle.std.specs.Prelude.{◌≡◌, ℕ, ◌+◌, ⊤, Bool, true, List, ◌++◌, length, Option, Some, None}
use Rattle.llrp_capture.specs.declared.reassembly.Reassembly.{Reassembly}
use Rattle.llrp_capture.specs.Calls.Pieces.{Piece}
use Rattle.llrp_capture.specs.Calls.Reassembly.{Begins, Stands as StandsFor}
use Rattle.llrp_sides.specs.declared.stamp.Stamp.{Stamp}
use Rattle.llrp_sides.specs.declared.side.Side.{Side}
use Rattle.llrp_sides.specs.Calls.Sides.{CameAt, HasNoneFrom, IsNear, with_piece}
use Rattle.llrp_sides.specs.Calls.Stretches.{Lists, Stands}

-- octets that follow those before are listed
pub record TakesOctets (stamp : Stamp) (octets : List ℕ) (old new : Side) (text0 text1 : List ℕ) : Type 0 where
  pub passed : new.passed ≡ old.passed
  pub lists : (bytes listing : List ℕ) → Stands old.stretch bytes listing → Lists stamp octets bytes listing new.stretch text0 text1
  pub lawful : new.is_lawful ≡ old.is_lawful

-- Octets are put into their place, and those that are then without a gap are listed.
pub record PutsPiece (stamp : Stamp) (sequence : ℕ) (octets : List ℕ) (before after : Reassembly) (old new : Side) (text0 text1 : List ℕ) (pieces : List Piece) (start : ℕ) (bytes listing : List ℕ) : Type 0 where
  pub place : ℕ
  pub came : CameAt octets before.here sequence place
  pub more : List ℕ
  pub stands : StandsFor (with_piece octets place pieces) start (bytes ++ more) after
  pub lists : Lists stamp more bytes listing new.stretch text0 text1
  pub passed : new.passed ≡ None
  pub lawful : new.is_lawful ≡ old.is_lawful

-- where they are near enough
abbrev pub Puts : Stamp → (sequence : ℕ) → (octets : List ℕ) → (before after : Reassembly) → (old new : Side) → (text0 text1 : List ℕ) → Type 0
Puts stamp sequence octets before after old new text0 text1 = old.passed ≡ None → IsNear before.here sequence octets → (pieces : List Piece) (start : ℕ) (bytes listing : List ℕ) → StandsFor pieces start bytes before → Stands old.stretch bytes listing
    → PutsPiece stamp sequence octets before after old new text0 text1 pieces start bytes listing

-- what came of a side is taken out of it; where nothing came, this begins with the octet that has the sequence number
abbrev pub TakesOut : (sequence : ℕ) → Option Reassembly → Reassembly → Type 0
TakesOut sequence None reassembly = Begins sequence reassembly
TakesOut sequence (Some other) reassembly = reassembly ≡ other

-- it is known where a side begins: a segment came, or this one has SYN
abbrev pub IsBegun : Option Reassembly → (has_syn : Bool) → Type 0
IsBegun None has_syn = has_syn ≡ true
IsBegun (Some reassembly) has_syn = ⊤

-- no octet waits after a gap
pub record HasNoMore (reassembly : Reassembly) : Type 0 where
  pub pieces : List Piece
  pub start : ℕ
  pub octets : List ℕ
  pub stands : StandsFor pieces start octets reassembly
  pub none : HasNoneFrom pieces (start + length octets)

-- Nothing is listed.
pub record ListsNothing (old new : Side) (text0 text1 : List ℕ) : Type 0 where
  pub passed : new.passed ≡ old.passed
  pub stretch : new.stretch ≡ old.stretch
  pub lawful : new.is_lawful ≡ old.is_lawful
  pub text : text1 ≡ text0
