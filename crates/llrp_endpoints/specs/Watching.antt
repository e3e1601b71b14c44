-- A client that is watched: what it reads, prints and says, a read at a time.
use Rattle.std.specs.Prelude.{◌≡◌, ℕ, ◌⊎◌, ◌+◌, ◌<◌, ◌≤◌, Bool, true, false, List, [], ◌∷◌, ◌++◌, Result, Ok, Err}
use Rattle.std.specs.List.{flat_map}
use Rattle.llrp_stream.specs.Cuts.{IsPartial, Breaks}
use Rattle.llrp_stream.specs.Device.{SourceLog, SinkLog, Gave, Wrote}
use Rattle.llrp_listing.specs.Copying.{GaveAndFailed}
use Rattle.llrp_listing.specs.declared.outcome.ToolErr.{ToolErr}
use Rattle.llrp_listing.specs.declared.outcome.ToolErr.TheVariants.{Read, Write, Bound, Broken, Memory, Peer, Strange, Early}
use Rattle.llrp_endpoints.specs.declared.course.Phase.{Phase}
use Rattle.llrp_endpoints.specs.declared.course.Phase.TheVariants.{Open, Closed, Failed}
use Rattle.llrp_endpoints.specs.declared.inventory.TheConstants.{MOST_LASTING_READS}
use Rattle.llrp_endpoints.specs.declared.summary.Summary.{Summary}
use Rattle.llrp_endpoints.specs.Gathering.{Beginning, Course, GathersFrom, beginning, hurried}
use Rattle.llrp_endpoints.specs.Calls.GatheringStands.{Moves, further}
use Rattle.llrp_endpoints.specs.Plan.{Plan}
use Rattle.llrp_endpoints.specs.RunInventory.{ReadAllWithin}
use Rattle.llrp_endpoints.specs.TagLines.{summary_of}

-- a read of a watched client
pub record Turn : Type 0 where
  pub piece : List ℕ  -- the octets that it gave
  pub lines : List ℕ  -- the lines of the reports that they completed
  pub late : Bool  -- the time was up after it

-- What holds of the one state of a watcher, after the turns before and from a log of a sink on, holds of the other with these turns more.
abbrev pub Tells : (old new : SinkLog → List Turn → Type 0) → List Turn → Type 0
Tells old new turns = (base : SinkLog) (before : List Turn) → old base before → new base (before ++ turns)

-- it received a read; or it failed
abbrev pub IsTold : (old new : SinkLog → List Turn → Type 0) → (piece lines : List ℕ) → Result Bool ToolErr → Type 0
IsTold old new piece lines (Ok late) = Tells old new (record { piece = piece; lines = lines; late = late } ∷ [])
IsTold old new piece lines (Err error) = (error ≡ Write) ⊎ (error ≡ Memory)

-- all that was read in turns
abbrev pub pieces_of : List Turn → List ℕ
pieces_of turns = flat_map (λ t. t.piece) turns

-- A client that is still open hurries once the time is up, and says so much.
abbrev pub Hurrying : (late : Bool) → Phase → Course → List ℕ → Course → Type 0
Hurrying true Open c said d = (d ≡ hurried c) × Moves c d [] said [] []
Hurrying true Closed c said d = (d ≡ c) × (said ≡ [])
Hurrying true (Failed error) c said d = (d ≡ c) × (said ≡ [])
Hurrying false phase c said d = (d ≡ c) × (said ≡ [])

-- With these octets of an unfinished frame before, a turn led from the beginning on to that course, and the client said so much.
pub record Takes (b : Beginning) (rest : List ℕ) (t : Turn) (next said : List ℕ) (course : Course) : Type 0 where
  pub taken : Course
  pub first : List ℕ
  pub last : List ℕ
  pub gathers : GathersFrom b (rest ++ t.piece) next taken
  pub moves : Moves b.course taken [] first [] t.lines
  pub goes : Hurrying t.late taken.phase taken last course
  pub said_is : said ≡ first ++ last

-- These turns led from the beginning on to that course, with these octets of an unfinished frame, and the client said so much.
pub data Leads (b : Beginning) : List Turn → (rest said : List ℕ) → Course → Type 0 where
  no_turn : Leads b [] [] [] b.course
  one_more : (turns : List Turn) (rest said : List ℕ) (course : Course) (t : Turn) (next more : List ℕ) (d : Course) → Leads b turns rest said course → Takes (further b course) rest t next more d → Leads b (turns ++ t ∷ []) next (said ++ more) d

-- ---- a run

-- at most this many reads gave these octets
abbrev pub GivenIn : SourceLog → SourceLog → List ℕ → Type 0
GivenIn r0 r1 bytes = (n : ℕ) × (n ≤ MOST_LASTING_READS) × Gave r0 r1 n bytes

-- further octets are awaited
abbrev pub IsWaiting : List ℕ → Course → Type 0
IsWaiting rest course = (course.phase ≡ Open) × IsPartial rest

-- After these turns one more read gave a piece, in which a length field is below 10.
pub record BreaksOffIn (b : Beginning) (r0 r1 : SourceLog) (w0 w1 : SinkLog) (v0 v1 : SinkLog → List Turn → Type 0) (turns : List Turn) (rest said : List ℕ) (course : Course) : Type 0 where
  pub last : Turn
  pub next : List ℕ
  pub more : List ℕ
  pub taken : Course
  pub given : GivenIn r0 r1 (pieces_of turns ++ last.piece)
  pub told : Tells v0 v1 (turns ++ last ∷ [])
  pub gathers : GathersFrom (further b course) (rest ++ last.piece) next taken
  pub moves : Moves course taken [] more [] last.lines
  pub still_open : taken.phase ≡ Open
  pub breaks : Breaks next
  pub wrote : Wrote w0 w1 (said ++ more)

-- After these turns one more read gave a piece, of which some first part was done.
pub record StopsIn (r0 r1 : SourceLog) (turns : List Turn) : Type 0 where
  pub piece : List ℕ
  pub given : GivenIn r0 r1 (pieces_of turns ++ piece)

-- What a run did after turns that led to this course, by its answer.
abbrev pub EndsIn : Beginning → SourceLog → SourceLog → SinkLog → SinkLog → (v0 v1 : SinkLog → List Turn → Type 0) → List Turn → (rest said : List ℕ) → Course → Result Summary ToolErr → Type 0
EndsIn b r0 r1 w0 w1 v0 v1 turns rest said course (Ok summary) = GivenIn r0 r1 (pieces_of turns) × Tells v0 v1 turns × Wrote w0 w1 said × (course.phase ≡ Closed) × (summary ≡ summary_of course.reports)
EndsIn b r0 r1 w0 w1 v0 v1 turns rest said course (Err Early) =
    Tells v0 v1 turns × Wrote w0 w1 said × ((ReadAllWithin MOST_LASTING_READS r0 r1 (pieces_of turns) × IsWaiting rest course) ⊎ (GivenIn r0 r1 (pieces_of turns) × (course.phase ≡ Failed Early)))
EndsIn b r0 r1 w0 w1 v0 v1 turns rest said course (Err (Peer status)) = GivenIn r0 r1 (pieces_of turns) × Tells v0 v1 turns × Wrote w0 w1 said × (course.phase ≡ Failed (Peer status))
EndsIn b r0 r1 w0 w1 v0 v1 turns rest said course (Err Strange) = GivenIn r0 r1 (pieces_of turns) × Tells v0 v1 turns × Wrote w0 w1 said × (course.phase ≡ Failed Strange)
EndsIn b r0 r1 w0 w1 v0 v1 turns rest said course (Err Broken) = BreaksOffIn b r0 r1 w0 w1 v0 v1 turns rest said course
EndsIn b r0 r1 w0 w1 v0 v1 turns rest said course (Err Read) = ((n : ℕ) × GaveAndFailed r0 r1 n (pieces_of turns)) × Tells v0 v1 turns × Wrote w0 w1 said × IsWaiting rest course
EndsIn b r0 r1 w0 w1 v0 v1 turns rest said course (Err Bound) = Gave r0 r1 MOST_LASTING_READS (pieces_of turns) × Tells v0 v1 turns × Wrote w0 w1 said × IsWaiting rest course
EndsIn b r0 r1 w0 w1 v0 v1 turns rest said course (Err Write) = StopsIn r0 r1 turns
EndsIn b r0 r1 w0 w1 v0 v1 turns rest said course (Err Memory) = StopsIn r0 r1 turns
EndsIn b r0 r1 w0 w1 v0 v1 turns rest said course (Err _) = ⊥

-- A run of a client with this limit and plan: turn after turn, until it ends.
pub record RunsWatching (limit : ℕ) (plan : Plan) (r0 r1 : SourceLog) (w0 w1 : SinkLog) (v0 v1 : SinkLog → List Turn → Type 0) (answer : Result Summary ToolErr) : Type 0 where
  pub turns : List Turn
  pub rest : List ℕ
  pub said : List ℕ
  pub course : Course
  pub leads : Leads (beginning limit plan) turns rest said course
  pub ends : EndsIn (beginning limit plan) r0 r1 w0 w1 v0 v1 turns rest said course answer
