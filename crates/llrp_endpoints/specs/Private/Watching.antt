-- Beside Watching: words of private functions.
use Rattle.std.specs.Prelude.{◌≡◌, ℕ, Bool, true, false, List, [], ◌∷◌, ◌++◌, Result, Ok, Err}
use Rattle.llrp_stream.specs.Cuts.{Breaks}
use Rattle.llrp_stream.specs.Device.{SourceLog, SinkLog, Wrote}
use Rattle.llrp_listing.specs.declared.outcome.ToolErr.{ToolErr}
use Rattle.llrp_listing.specs.declared.outcome.ToolErr.TheVariants.{Write, Broken, Memory, Peer, Strange, Early}
use Rattle.llrp_endpoints.specs.declared.course.Phase.TheVariants.{Open, Closed, Failed}
use Rattle.llrp_endpoints.specs.declared.gathering.Gathering.{Gathering}
use Rattle.llrp_endpoints.specs.declared.summary.Summary.{Summary}
use Rattle.llrp_endpoints.specs.Gathering.{Beginning, Course, GathersFrom, hurried, new_course}
use Rattle.llrp_endpoints.specs.Calls.GatheringStands.{Counts, IsOpen, IsOpenFrom, Moves, further}
use Rattle.llrp_endpoints.specs.Plan.{Plan}
use Rattle.llrp_endpoints.specs.Watching.{RunsWatching, Takes, Tells, Turn}

-- it hurried, and this was said and written
pub record HurriedOn (c : Course) (w0 w1 : SinkLog) (said : List ℕ) : Type 0 where
  pub moves : Moves c (hurried c) [] said [] []
  pub wrote : Wrote w0 w1 said

-- it hurried and goes on, or ended
abbrev pub HurriesOn : Beginning → List ℕ → Gathering → SinkLog → SinkLog → Result (Unit {0}) ToolErr → Type 0
HurriesOn b rest g w0 w1 (Ok done) = (said : List ℕ) × HurriedOn b.course w0 w1 said × IsOpenFrom (further b (hurried b.course)) rest rest (hurried b.course) g
HurriesOn b rest g w0 w1 (Err Write) = Unit {0}
HurriesOn b rest g w0 w1 (Err Memory) = Unit {0}
HurriesOn b rest g w0 w1 (Err (Peer status)) = (said : List ℕ) × HurriedOn b.course w0 w1 said × ((hurried b.course).phase ≡ Failed (Peer status))
HurriesOn b rest g w0 w1 (Err Strange) = (said : List ℕ) × HurriedOn b.course w0 w1 said × ((hurried b.course).phase ≡ Failed Strange)
HurriesOn b rest g w0 w1 (Err Early) = (said : List ℕ) × HurriedOn b.course w0 w1 said × ((hurried b.course).phase ≡ Failed Early)
HurriesOn b rest g w0 w1 (Err _) = ⊥

-- the state that a turn leaves: it goes on, or the connection was closed
abbrev pub IsLeftAt : Bool → Beginning → List ℕ → Course → Gathering → Type 0
IsLeftAt false b next course g = IsOpenFrom (further b course) next next course g
IsLeftAt true b next course g = (course.phase ≡ Closed) × Counts course.reports g

-- a whole turn
pub record TurnsTo (b : Beginning) (rest piece : List ℕ) (w0 w1 : SinkLog) (v0 v1 : SinkLog → List Turn → Type 0) (t : Turn) (next : List ℕ) (course : Course) : Type 0 where
  pub said : List ℕ
  pub piece_is : t.piece ≡ piece
  pub told : Tells v0 v1 (t ∷ [])
  pub takes : Takes b rest t next said course
  pub wrote : Wrote w0 w1 said

-- a piece in which a length field is below 10
pub record TurnBreaks (b : Beginning) (rest piece : List ℕ) (w0 w1 : SinkLog) (v0 v1 : SinkLog → List Turn → Type 0) : Type 0 where
  pub last : Turn
  pub next : List ℕ
  pub more : List ℕ
  pub taken : Course
  pub piece_is : last.piece ≡ piece
  pub told : Tells v0 v1 (last ∷ [])
  pub gathers : GathersFrom b (rest ++ last.piece) next taken
  pub moves : Moves b.course taken [] more [] last.lines
  pub still_open : taken.phase ≡ Open
  pub breaks : Breaks next
  pub wrote : Wrote w0 w1 more

-- a whole turn that ended the course with this error
abbrev pub TurnFailed : Beginning → (rest piece : List ℕ) → SinkLog → SinkLog → (SinkLog → List Turn → Type 0) → (SinkLog → List Turn → Type 0) → ToolErr → Type 0
TurnFailed b rest piece w0 w1 v0 v1 error = (t : Turn) × (next : List ℕ) × (course : Course) × TurnsTo b rest piece w0 w1 v0 v1 t next course × (course.phase ≡ Failed error)

abbrev pub TurnFails : Beginning → (rest piece : List ℕ) → SinkLog → SinkLog → (SinkLog → List Turn → Type 0) → (SinkLog → List Turn → Type 0) → ToolErr → Type 0
TurnFails b rest piece w0 w1 v0 v1 Broken = TurnBreaks b rest piece w0 w1 v0 v1
TurnFails b rest piece w0 w1 v0 v1 Write = Unit {0}
TurnFails b rest piece w0 w1 v0 v1 Memory = Unit {0}
TurnFails b rest piece w0 w1 v0 v1 (Peer status) = TurnFailed b rest piece w0 w1 v0 v1 (Peer status)
TurnFails b rest piece w0 w1 v0 v1 Strange = TurnFailed b rest piece w0 w1 v0 v1 Strange
TurnFails b rest piece w0 w1 v0 v1 Early = TurnFailed b rest piece w0 w1 v0 v1 Early
TurnFails b rest piece w0 w1 v0 v1 _ = ⊥

-- what a turn makes of a client that is so far
abbrev pub TurnEnds : Beginning → (rest piece : List ℕ) → Gathering → SinkLog → SinkLog → (SinkLog → List Turn → Type 0) → (SinkLog → List Turn → Type 0) → Result Bool ToolErr → Type 0
TurnEnds b rest piece g w0 w1 v0 v1 (Ok closed) = (t : Turn) × (next : List ℕ) × (course : Course) × TurnsTo b rest piece w0 w1 v0 v1 t next course × IsLeftAt closed b next course g
TurnEnds b rest piece g w0 w1 v0 v1 (Err error) = TurnFails b rest piece w0 w1 v0 v1 error

-- the same wherever it is
abbrev pub TakesTurn : List ℕ → Gathering → Gathering → SinkLog → SinkLog → (SinkLog → List Turn → Type 0) → (SinkLog → List Turn → Type 0) → Result Bool ToolErr → Type 0
TakesTurn piece old new w0 w1 v0 v1 answer = (b : Beginning) (rest : List ℕ) → IsOpenFrom b rest rest b.course old → TurnEnds b rest piece new w0 w1 v0 v1 answer

-- at the beginning of whatever plan it was, the run did so
abbrev pub WatchesFromStart : Gathering → SourceLog → SourceLog → SinkLog → SinkLog → (SinkLog → List Turn → Type 0) → (SinkLog → List Turn → Type 0) → Result Summary ToolErr → Type 0
WatchesFromStart g r0 r1 w0 w1 v0 v1 answer = (limit : ℕ) (plan : Plan) → IsOpen limit plan [] [] (new_course limit plan) g → RunsWatching limit plan r0 r1 w0 w1 v0 v1 answer
