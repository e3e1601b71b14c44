-- Beside Calls/Told: words of private functions.
use Rattle.std.specs.Prelude.{◌≡◌, ◌⊎◌, ℕ, ◌*◌, List, [], ◌∷◌, length}
use Rattle.llrp_schema.specs.declared.kinds.KindSet.{KindSet}
use Rattle.llrp_tree.specs.declared.fault.Fault.{Fault}
use Rattle.llrp_tree.specs.OpenTree.{Begun}
use Rattle.llrp_tree.specs.declared.fault.Reason.TheVariants.{Utf8}
use Rattle.llrp_stream.specs.declared.engine.body_reader.BodyReader.{BodyReader}
use Rattle.llrp_stream.specs.Calls.Front.{AreDeciding}
use Rattle.llrp_stream.specs.Calls.Reading.{HasReadTo, MayFailFor, Told}
use Rattle.llrp_stream.specs.Calls.Received.{EndsInOctet, IsFaultIn, StandAfter}

-- the engine has read a front so far, and these nodes are begun
abbrev pub IsReadBy : BodyReader → (front : List ℕ) → List Begun → Type 0
IsReadBy r front [] = ⊥
IsReadBy r front (b ∷ outer) = HasReadTo r front b outer

-- there is a tree that was received up to this octet and that the engine has read, the fault is one of it, and the front decides it
abbrev pub Remains : (begins stands : List Begun → Type 0) → BodyReader → (place : ℕ) → KindSet → (front : List ℕ) → (octets : ℕ) → Fault → Type 0
Remains begins stands r place p front octets fault = (t : List Begun) × Told begins stands r.stage t × IsFaultIn p front octets t fault × EndsInOctet t place × ((fault.reason ≡ Utf8) ⊎ AreDeciding (8 * length front) front octets t) × IsReadBy r front t × MayFailFor r.stage fault.reason

-- there is such a tree, and with it the fault and the octets after it were handed on
abbrev pub IsHanded : (faulty : List Begun → List ℕ → Fault → Type 0) → KindSet → (front : List ℕ) → (octets : ℕ) → Fault → Type 0
IsHanded faulty p front octets fault = (t : List Begun) × (handed : List ℕ) × faulty t handed fault × IsFaultIn p front octets t fault × StandAfter t front octets handed fault
