-- How far the current frame of a stream is read, whichever listener receives its parts.
use Rattle.std.specs.Prelude.{◌≡◌, ℕ, ◌+◌, ◌*◌, ◌<◌, ◌≤◌, ◌⊎◌, Bool, true, false, List, [], ◌++◌, length, take, Option, Some, None, Result, Ok, Err}
use Rattle.llrp_schema.specs.declared.kinds.KindSet.{KindSet}
use Rattle.llrp_tree.specs.Tree.{MessageTree}
use Rattle.llrp_tree.specs.Lawful.{AreOctets}
use Rattle.llrp_tree.specs.declared.fault.Fault.{Fault}
use Rattle.llrp_tree.specs.FirstFault.{FirstFaultIn}
use Rattle.llrp_tree.specs.OpenTree.{Begun}
use Rattle.llrp_stream.specs.declared.item.FeedErr.{FeedErr}
use Rattle.llrp_stream.specs.declared.item.FeedErr.TheVariants as failure
use Rattle.llrp_stream.specs.declared.engine.body.Body.{Body}
use Rattle.llrp_stream.specs.declared.engine.frames.Came.{Came}
use Rattle.llrp_stream.specs.declared.engine.frames.Frames.{Frames}
use Rattle.llrp_stream.specs.declared.engine.frames.Outcome.{Outcome}
use Rattle.llrp_stream.specs.declared.engine.frames.Outcome.TheVariants.{Whole, Bad}
use Rattle.llrp_stream.specs.declared.state.State.{State}
use Rattle.llrp_stream.specs.declared.state.State.TheVariants.{Between, Header, Reading, Skipping, Broken, Dead}
use Rattle.llrp_stream.specs.Cuts.{length_field, IsFrame, IsPartial, Breaks}
use Rattle.llrp_stream.specs.Items.{FrameIn, id_field}
use Rattle.llrp_stream.specs.Calls.Items.{header_fault_in, IsSkipped}
use Rattle.llrp_stream.specs.Calls.Pieces.{Awaits}
use Rattle.llrp_stream.specs.Calls.Received.{IsRefusedIn}

-- The front is of a frame whose header passes its checks and has this id, and the frame's length is known.
pub record IsPassed (limit id : ℕ) (body : Body) (front : List ℕ) : Type 0 where
  pub long : 10 ≤ length front
  pub octets_are : body.reader.octets ≡ length_field front
  pub within : body.reader.octets ≤ limit
  pub id_is : id ≡ id_field front
  pub passes : header_fault_in body.reader.set limit front ≡ None
  pub octets : AreOctets front

-- The listener received an open tree, which with the raw octets covers a front of such a frame that is not the whole frame and decides no fault of it.
pub record IsReading (begins stands : List Begun → Type 0) (limit id : ℕ) (body : Body) (front : List ℕ) : Type 0 where
  pub passed : IsPassed limit id body front
  pub awaits : Awaits begins stands body front

-- this front came of the current frame, and the listener received what is whole in it
abbrev pub ComesAt : (begins stands : List Begun → Type 0) → ℕ → State → Body → List ℕ → Type 0
ComesAt begins stands limit Between body front = (front ≡ []) × (body.raw.items ≡ []) × stands []
ComesAt begins stands limit Header body front = (body.raw.items ≡ front) × (0 < length front) × (length front < 10) × IsPartial front × stands []
ComesAt begins stands limit (Reading id) body front = IsReading begins stands limit id body front
ComesAt begins stands limit (Skipping count header) body front = IsSkipped body.reader.set limit count header.octets header.id header.fault front × (10 ≤ count) × (count < header.octets) × (body.raw.items ≡ []) × stands []
ComesAt begins stands limit _ body front = ⊥

-- this front came of the current frame of a stream, and the listener received what is whole in it
abbrev pub ComesTo : (begins stands : List Begun → Type 0) → Frames → List ℕ → Type 0
ComesTo begins stands frames front = ComesAt begins stands frames.limit frames.state frames.body front

-- there is such a front, or nothing comes any more
abbrev pub Comes : (begins stands : List ℕ → List Begun → Type 0) → Frames → Type 0
Comes begins stands frames = ((was front : List ℕ) × ComesAt (begins was) (stands was) frames.limit frames.state frames.body front) ⊎ ((frames.state ≡ Broken) ⊎ (frames.state ≡ Dead))

-- a frame may have this many octets at most
abbrev pub limit_of : Frames → ℕ
limit_of frames = frames.limit

-- the set of kinds whose frames are read
abbrev pub set_of : Frames → KindSet
set_of frames = frames.body.reader.set

-- the octets of the current frame that are kept as they are
abbrev pub raw_of : Frames → List ℕ
raw_of frames = frames.body.raw.items

-- what is kept of the current frame in each state
abbrev pub held_at : State → Body → ℕ
held_at Header body = length body.raw.items
held_at (Reading id) body = length body.raw.items + 2 * (length body.reader.outer.items + 1)
held_at _ body = 0

-- what the engine keeps of the current frame: its raw octets, and two for each open node
abbrev pub held_of : Frames → ℕ
held_of frames = held_at frames.state frames.body

-- this front came, whatever the listener received of it
abbrev pub IsFrontOf : Frames → List ℕ → Type 0
IsFrontOf frames front = ComesAt (λ tree. Unit {0}) (λ tree. Unit {0}) frames.limit frames.state frames.body front

-- a length field was below 10
abbrev pub IsBroken : Frames → Type 0
IsBroken frames = frames.state ≡ Broken

-- a growth was refused
abbrev pub IsDead : Frames → Type 0
IsDead frames = frames.state ≡ Dead

-- no frame is begun
abbrev pub IsIdle : Frames → Type 0
IsIdle frames = (frames.state ≡ Between) × (frames.body.raw.items ≡ [])

-- what became of a frame: the listener received its message, and has that; or it has a fault, and the listener has what it had
abbrev pub GivesIn : KindSet → (stands : List Begun → Type 0) (ends : MessageTree → List ℕ → Type 0) (rests : List ℕ → Type 0) → ℕ → List ℕ → Outcome → Type 0
GivesIn p stands ends rests limit frame Whole = (m : MessageTree) × FrameIn p m frame limit × (now : List ℕ) × ends m now × rests now
GivesIn p stands ends rests limit frame (Bad id fault) = (id ≡ id_field frame) × FirstFaultIn p frame limit fault.bit fault.reason × stands []

-- what a feed took: without an outcome the whole piece, which now belongs to the front; with one the bytes up to the frame's end
abbrev pub TakesOn : (begins stands : List Begun → Type 0) (ends : MessageTree → List ℕ → Type 0) (rests : List ℕ → Type 0) → ℕ → (front piece : List ℕ) → Frames → (used : ℕ) → Option Outcome → Type 0
TakesOn begins stands ends rests limit front piece new used None = (used ≡ length piece) × ComesAt begins stands limit new.state new.body (front ++ piece)
TakesOn begins stands ends rests limit front piece new used (Some outcome) = (used ≤ length piece) × IsFrame (front ++ take used piece) × GivesIn new.body.reader.set stands ends rests limit (front ++ take used piece) outcome × IsIdle new

abbrev pub is_skipped : State → Bool
is_skipped (Skipping count header) = true
is_skipped _ = false

-- what a feed does where a front came: it takes bytes, or the front with the piece is no front of a frame and the listener has what it had, or a growth was refused (never while it skips)
abbrev pub Goes : (begins stands : List Begun → Type 0) (ends : MessageTree → List ℕ → Type 0) (rests : List ℕ → Type 0) → (old new : Frames) → (front piece : List ℕ) → Result Came FeedErr → Type 0
Goes begins stands ends rests old new front piece (Ok came) = TakesOn begins stands ends rests old.limit front piece new came.used came.outcome
Goes begins stands ends rests old new front piece (Err failure.Broken) = Breaks (front ++ piece) × stands []
Goes begins stands ends rests old new front piece (Err failure.Memory) = is_skipped old.state ≡ false
Goes begins stands ends rests old new front piece (Err failure.Dead) = ⊥

-- nothing is kept after an error
abbrev pub Stops : Frames → FeedErr → Type 0
Stops frames failure.Broken = (frames.state ≡ Broken) × (frames.body.raw.items ≡ [])
Stops frames failure.Memory = (frames.state ≡ Dead) × (frames.body.raw.items ≡ [])
Stops frames failure.Dead = (frames.state ≡ Dead) × (frames.body.raw.items ≡ [])

-- whatever front came, and whatever a listener holds of earlier messages, this is what a feed of the piece does; the first two relations are of what it received before
abbrev pub GoesFrom : (begins0 stands0 begins stands : List ℕ → List Begun → Type 0) (ends : List ℕ → MessageTree → List ℕ → Type 0) → (old new : Frames) → List ℕ → Result Came FeedErr → Type 0
GoesFrom begins0 stands0 begins stands ends old new piece result = (was front : List ℕ) → ComesTo (begins0 was) (stands0 was) old front → Goes (begins was) (stands was) (ends was) (λ now. stands now []) old new front piece result

-- ---- a fault that was handed on

-- of a faulty frame that begins so, a listener received an open tree, and was handed the fault with the octets after that tree
abbrev pub IsRefused : (faulty : List Begun → List ℕ → Fault → Type 0) → KindSet → ℕ → List ℕ → Fault → Type 0
IsRefused faulty p limit front fault = (t : List Begun) × (handed : List ℕ) × faulty t handed fault × IsRefusedIn p limit front (length_field front) t handed fault

-- so it is with a frame that is skipped
abbrev pub IsRefusedAt : (faulty : List Begun → List ℕ → Fault → Type 0) → KindSet → ℕ → State → List ℕ → Type 0
IsRefusedAt faulty p limit (Skipping count header) front = IsRefused faulty p limit front header.fault
IsRefusedAt faulty p limit _ front = Unit {0}

-- and with one that a feed ends
abbrev pub EndsRefused : (faulty : List Begun → List ℕ → Fault → Type 0) → KindSet → ℕ → (front piece : List ℕ) → State → (used : ℕ) → Option Outcome → Type 0
EndsRefused faulty p limit front piece new used None = IsRefusedAt faulty p limit new (front ++ piece)
EndsRefused faulty p limit front piece new used (Some Whole) = Unit {0}
EndsRefused faulty p limit front piece new used (Some (Bad id fault)) = IsRefused faulty p limit (front ++ take used piece) fault

-- what a feed returns of such a frame
abbrev pub Refuses : (faulty : List Begun → List ℕ → Fault → Type 0) → KindSet → ℕ → (front piece : List ℕ) → Frames → Result Came FeedErr → Type 0
Refuses faulty p limit front piece new (Ok came) = EndsRefused faulty p limit front piece new.state came.used came.outcome
Refuses faulty p limit front piece new (Err error) = Unit {0}

-- whatever front came, and whatever a listener holds of earlier messages, it is so after a feed of the piece; the first three relations are of what it received before
abbrev pub RefusesFrom : (begins0 stands0 : List ℕ → List Begun → Type 0) (faulty0 faulty : List ℕ → List Begun → List ℕ → Fault → Type 0) → (old new : Frames) → List ℕ → Result Came FeedErr → Type 0
RefusesFrom begins0 stands0 faulty0 faulty old new piece result = (was front : List ℕ) → ComesTo (begins0 was) (stands0 was) old front → IsRefusedAt (faulty0 was) old.body.reader.set old.limit old.state front → Refuses (faulty was) old.body.reader.set old.limit front piece new result
