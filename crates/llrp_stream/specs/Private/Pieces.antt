-- Beside Calls/Pieces: words of private functions.
use Rattle.std.specs.Prelude.{◌≡◌, ℕ, ◌+◌, ◌<◌, ◌≤◌, List, ◌∷◌, ◌++◌, length, drop, Bool, true, false, Result, Ok, Err}
use Rattle.llrp_tree.specs.declared.fault.Fault.{Fault}
use Rattle.llrp_tree.specs.declared.fault.FrameErr.{FrameErr}
use Rattle.llrp_tree.specs.OpenTree.{Begun}
use Rattle.llrp_stream.specs.declared.engine.body_reader.BodyReader.{BodyReader}
use Rattle.llrp_stream.specs.declared.engine.body_reader.ReadParts.{ReadParts}
use Rattle.llrp_stream.specs.declared.engine.body.Body.{Body}
use Rattle.llrp_stream.specs.Private.Front.{FailsHanded}
use Rattle.llrp_stream.specs.Calls.Front.{IsUndecided}
use Rattle.llrp_stream.specs.Calls.Reading.{Are, settled}
use Rattle.llrp_stream.specs.Private.Reading.{IsComplete}
use Rattle.llrp_stream.specs.Calls.Pieces.{BodyStands, Awaits}

-- The parts that were whole are read; fewer than 16 octets are left, or the message is whole.
pub record ReadOn (begins stands : List Begun → Type 0) (old new : BodyReader) (front octets : List ℕ) (used : ℕ) : Type 0 where
  pub within : used ≤ length octets
  pub left : length octets < used + 16
  pub short : old.at + length octets < old.octets
  pub are : Are begins stands new front
  pub place : new.at ≡ old.at + used
  pub same : new.octets ≡ old.octets
  pub set : new.set ≡ old.set
  pub undecided : IsUndecided front new.octets (settled new.stage are.node ∷ are.outer)

abbrev pub ReadsOn : (begins stands : List Begun → Type 0) (faulty : List Begun → List ℕ → Fault → Type 0) → (old new : BodyReader) → (front octets : List ℕ) → Result ReadParts FrameErr → Type 0
ReadsOn begins stands faulty old new front octets (Ok read) = (read.whole ≡ false → ReadOn begins stands old new front octets read.used) × (read.whole ≡ true → IsComplete stands new front × (new.octets ≡ old.octets) × (new.set ≡ old.set))
ReadsOn begins stands faulty old new front octets (Err e) = FailsHanded stands faulty old.set front old.octets e

-- what a feed of a piece does, which goes no further than the frame
abbrev pub Feeds : (begins stands : List Begun → Type 0) (faulty : List Begun → List ℕ → Fault → Type 0) → (old new : Body) → (front piece : List ℕ) → Result Bool FrameErr → Type 0
Feeds begins stands faulty old new front piece (Ok false) = Awaits begins stands new (front ++ piece) × (new.reader.octets ≡ old.reader.octets) × (new.reader.set ≡ old.reader.set)
Feeds begins stands faulty old new front piece (Ok true) = IsComplete stands new.reader (front ++ piece) × (new.reader.octets ≡ old.reader.octets) × (new.reader.set ≡ old.reader.set)
Feeds begins stands faulty old new front piece (Err e) = FailsHanded stands faulty old.reader.set (front ++ piece) old.reader.octets e

-- Some parts are read, and these octets are left.
pub record ReadSoFar (begins stands : List Begun → Type 0) (old new : BodyReader) (front octets rest : List ℕ) : Type 0 where
  pub are : Are begins stands new front
  pub behind : drop new.at front ≡ rest
  pub place : new.at + length rest ≡ old.at + length octets
  pub within : length rest ≤ length octets
  pub same : new.octets ≡ old.octets
  pub set : new.set ≡ old.set

-- Some octets of a piece are fed, and these are left.
pub record FedSoFar (begins stands : List Begun → Type 0) (old new : Body) (front piece rest : List ℕ) : Type 0 where
  pub done : List ℕ
  pub parts : piece ≡ done ++ rest
  pub are : BodyStands begins stands new (front ++ done)
  pub same : new.reader.octets ≡ old.reader.octets
  pub set : new.reader.set ≡ old.reader.set

-- the engine and its raw octets stand for a front of a frame, and the piece goes no further than the frame
abbrev pub HasRoomFor : (begins stands : List ℕ → List Begun → Type 0) → Body → List ℕ → Type 0
HasRoomFor begins stands body piece = (was front : List ℕ) × BodyStands (begins was) (stands was) body front × (length (front ++ piece) ≤ body.reader.octets)

-- wherever they stand so, this is what a feed of the piece does; the first two relations are of what a listener received before it
abbrev pub FeedsFrom : (begins0 stands0 begins stands : List ℕ → List Begun → Type 0) (faulty : List ℕ → List Begun → List ℕ → Fault → Type 0) → (old new : Body) → List ℕ → Result Bool FrameErr → Type 0
FeedsFrom begins0 stands0 begins stands faulty old new piece result = (was front : List ℕ) → BodyStands (begins0 was) (stands0 was) old front → length (front ++ piece) ≤ old.reader.octets → Feeds (begins was) (stands was) (faulty was) old new front piece result
