-- Beside Calls/Front: words of private functions.
use Rattle.std.specs.Prelude.{◌≡◌, ◌≢◌, ◌⊎◌, ℕ, ◌*◌, Bool, List, [], ◌++◌, length}
use Rattle.tag_bits.specs.Digits.{digits_of_bytes}
use Rattle.llrp_schema.specs.declared.kinds.KindSet.{KindSet}
use Rattle.llrp_tree.specs.declared.fault.Fault.{Fault}
use Rattle.llrp_tree.specs.declared.fault.FrameErr.{FrameErr}
use Rattle.llrp_tree.specs.OpenTree.{Begun, root_set}
use Rattle.llrp_tree.specs.declared.fault.FrameErr.TheVariants.{Memory, Bad}
use Rattle.llrp_tree.specs.Private.Standing.{Tells}
use Rattle.llrp_tree.specs.declared.fault.Reason.TheVariants.{Utf8}
use Rattle.llrp_stream.specs.declared.engine.body_reader.BodyReader.{BodyReader}
use Rattle.llrp_stream.specs.declared.engine.body_reader.Stage.{Stage}
use Rattle.llrp_stream.specs.declared.engine.body_reader.Stage.TheVariants.{Leading, Tail, Children}
use Rattle.llrp_stream.specs.Calls.Front.{AreDeciding}
use Rattle.llrp_stream.specs.Calls.Received.{FailsAt, without_tail}
use Rattle.llrp_stream.specs.Private.Received.{IsHanded, Remains}

-- the error is the fault of each frame of this many octets that begins with the front, or that memory ran out
abbrev pub TellsAll : KindSet → List ℕ → ℕ → FrameErr → Type 0
TellsAll p front octets e = (more : List ℕ) → length (front ++ more) ≡ octets → Tells p (digits_of_bytes (front ++ more)) e

-- the error is the fault of each frame of this many octets that begins with the front, of which a tree was received up to this octet, and so far the engine has read it, or that memory ran out
abbrev pub FailsWith : (begins stands : List Begun → Type 0) → BodyReader → (place : ℕ) → KindSet → List ℕ → ℕ → FrameErr → Type 0
FailsWith begins stands r place p front octets Memory = Unit {0}
FailsWith begins stands r place p front octets (Bad fault) = TellsAll p front octets (Bad fault) × Remains begins stands r place p front octets fault

-- the same, where the fault was handed on and what was received is given up
abbrev pub FailsHanded : (stands : List Begun → Type 0) → (faulty : List Begun → List ℕ → Fault → Type 0) → KindSet → List ℕ → ℕ → FrameErr → Type 0
FailsHanded stands faulty p front octets Memory = Unit {0}
FailsHanded stands faulty p front octets (Bad fault) = TellsAll p front octets (Bad fault) × stands [] × IsHanded faulty p front octets fault

-- the error is the fault of the digits at this open tree, or that memory ran out
abbrev pub TellsAt : List Bool → List Begun → FrameErr → Type 0
TellsAt ds t Memory = Unit {0}
TellsAt ds t (Bad fault) = FailsAt ds t fault.bit fault.reason

-- it is that of a text
abbrev pub IsOfText : FrameErr → Type 0
IsOfText Memory = ⊥
IsOfText (Bad fault) = fault.reason ≡ Utf8

abbrev pub IsOfNoText : FrameErr → Type 0
IsOfNoText Memory = Unit {0}
IsOfNoText (Bad fault) = fault.reason ≢ Utf8

-- a fault of text comes within a tail, and no other does
abbrev pub MayFailWith : Stage → FrameErr → Type 0
MayFailWith (Leading next) e = Unit {0}
MayFailWith (Tail left) e = IsOfText e
MayFailWith Children e = IsOfNoText e

-- the front decides it, or it is that of a text
abbrev pub IsDecidedFor : List Begun → (front : List ℕ) → (octets : ℕ) → FrameErr → Type 0
IsDecidedFor t front octets Memory = Unit {0}
IsDecidedFor t front octets (Bad fault) = (fault.reason ≡ Utf8) ⊎ AreDeciding (8 * length front) front octets t

-- The error is the fault of each frame of this many octets that begins with the front, at this open tree, or that memory ran out.
pub record TellsFor (p : KindSet) (t : List Begun) (front : List ℕ) (octets : ℕ) (e : FrameErr) : Type 0 where
  pub tree : List Begun
  pub is : (t ≡ tree) ⊎ (IsOfText e × (without_tail t ≡ tree))
  pub root : root_set tree ≡ p
  pub tells : (more : List ℕ) → length (front ++ more) ≡ octets → TellsAt (digits_of_bytes (front ++ more)) tree e
  pub decided : IsDecidedFor t front octets e
