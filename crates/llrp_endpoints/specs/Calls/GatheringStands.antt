-- What a `Gathering` stands for, and what its calls make of it.
use Rattle.std.specs.Prelude.{◌≡◌, ℕ, ◌++◌, List, [], ◌∷◌, replicate, Result, Ok, Err, Bool, true, false}
use Rattle.llrp_tree.specs.Tree.{Tree}
use Rattle.llrp_stream.specs.Cuts.{Breaks}
use Rattle.llrp_stream.specs.Calls.Decoding.{StandsIn}
use Rattle.llrp_session.specs.declared.types.Command.TheVariants.{Add, Enable, Start, SetKeepalive, GetReport, Delete, Close}
use Rattle.llrp_session.specs.Contents.{ClientMessage}
use Rattle.llrp_listing.specs.declared.outcome.ToolErr.{ToolErr}
use Rattle.llrp_listing.specs.declared.outcome.ToolErr.TheVariants.{Broken, Memory, Peer, Strange, Early}
use Rattle.llrp_endpoints.specs.declared.gathering.Gathering.{Gathering}
use Rattle.llrp_endpoints.specs.declared.gathering.remaining.RemainingCommands.{RemainingCommands}
use Rattle.llrp_endpoints.specs.declared.gathering.remaining.RemainingCommands.TheVariants.{Cleaning, Keeping, Adding, Enabling, Starting, Awaiting, Checking, Deleting, Closing, Nothing}
use Rattle.llrp_endpoints.specs.declared.gathering.remaining.Later.{Later}
use Rattle.llrp_endpoints.specs.declared.course.Step.{Step}
use Rattle.llrp_endpoints.specs.declared.course.Step.TheVariants.{Send, AwaitTags}
use Rattle.llrp_endpoints.specs.Plan.{Plan, rospec_id, is_kept, is_started, keeping, starting, adding, checking, removing}
use Rattle.llrp_endpoints.specs.Sending.{Adds}
use Rattle.llrp_endpoints.specs.Calls.Sending.{AddsSome}
use Rattle.llrp_endpoints.specs.TagLines.{AreReports, summary_of}
use Rattle.llrp_endpoints.specs.declared.course.Phase.{Phase}
use Rattle.llrp_endpoints.specs.declared.course.Phase.TheVariants.{Open, Closed, Failed}
use Rattle.llrp_endpoints.specs.Asides.{all_said}
use Rattle.llrp_endpoints.specs.Calls.Asides.{said_in}
use Rattle.llrp_endpoints.specs.Gathering.{Beginning, Course, GathersFrom, beginning, closing_text, hurried}

-- ---- the steps that are left

abbrev pub later_of : Plan → Later
later_of plan = record { id = rospec_id plan; starts = is_started plan; reports = plan.reports; polls = plan.polls; adds = plan.adds; checked = plan.checked; disables = plan.disables }

abbrev pub closing : List Step
closing = Send Close ∷ []

abbrev pub deleting : ℕ → List Step
deleting id = Send (Delete id) ∷ closing

abbrev pub checks_then_deletes : Bool → ℕ → List Step
checks_then_deletes checked id = (checking checked ++ Send (Delete id) ∷ []) ++ closing

abbrev pub polling : Later → List Step
polling l = replicate l.polls (Send GetReport) ++ (removing l.adds l.disables l.checked l.id ++ closing)

abbrev pub awaiting : Later → List Step
awaiting l = replicate l.reports AwaitTags ++ polling l

abbrev pub starts_then_awaits : Later → List Step
starts_then_awaits l = starting l.starts l.id ++ awaiting l

abbrev pub adds_then_awaits : Plan → List Step
adds_then_awaits plan = adding plan.adds (is_started plan) plan.rospec (rospec_id plan) ++ awaiting (later_of plan)

abbrev pub keeps_then_adds : Plan → List Step
keeps_then_adds plan = keeping (is_kept plan) plan.keepalive ++ adds_then_awaits plan

abbrev pub steps_left : RemainingCommands → List Step
steps_left (Cleaning id plan) = Send (Delete id) ∷ keeps_then_adds plan
steps_left (Keeping plan) = Send (SetKeepalive plan.keepalive) ∷ adds_then_awaits plan
steps_left (Adding plan) = Send (Add plan.rospec) ∷ Send (Enable (rospec_id plan)) ∷ starts_then_awaits (later_of plan)
steps_left (Enabling l) = Send (Enable l.id) ∷ starts_then_awaits l
steps_left (Starting l) = Send (Start l.id) ∷ awaiting l
steps_left (Awaiting l) = awaiting l
steps_left (Checking checked id) = checks_then_deletes checked id
steps_left (Deleting id) = deleting id
steps_left Closing = closing
steps_left Nothing = []

-- ---- the state that it is in

-- it counts these reports
abbrev pub Counts : List (List Tree) → Gathering → Type 0
Counts reports g = g.summary ≡ summary_of reports

-- it is so far
pub record Holds (course : Course) (g : Gathering) : Type 0 where
  pub client_is : g.client ≡ course.client
  pub form_is : g.form ≡ course.form
  pub asides_are : said_in g.asides g.whole ≡ course.asides
  pub left_is : steps_left g.left ≡ course.left
  pub awaits_is : g.awaits ≡ course.awaits
  pub counts : Counts course.reports g

-- From this beginning on it was handed these bytes, and is so far; the decoder keeps what follows the frames.
pub record StandsFrom (b : Beginning) (bytes rest : List ℕ) (course : Course) (g : Gathering) : Type 0 where
  pub gathers : GathersFrom b bytes rest course
  pub open_is : course.phase ≡ Open
  pub holds : Holds course g
  pub decoder : StandsIn b.hearing.set g.decoder rest
  pub limit_is : g.decoder.limit ≡ b.limit
  pub hearing_is : g.hearing ≡ b.hearing

-- it takes bytes
pub record IsOpenFrom (b : Beginning) (bytes rest : List ℕ) (course : Course) (g : Gathering) : Type 0 where
  pub stands : StandsFrom b bytes rest course g
  pub phase : g.phase ≡ Open

abbrev pub IsOpen : (limit : ℕ) → Plan → (bytes rest : List ℕ) → Course → Gathering → Type 0
IsOpen limit plan bytes rest course g = IsOpenFrom (beginning limit plan) bytes rest course g

-- the connection is up
abbrev pub IsConnected : Gathering → Type 0
IsConnected g = g.phase ≡ Open

-- it was closed as planned
abbrev pub IsClosed : Gathering → Type 0
IsClosed g = g.phase ≡ Closed

-- it ended with this error
abbrev pub HasFailed : ToolErr → Gathering → Type 0
HasFailed error g = g.phase ≡ Failed error

-- ---- what is appended

-- From the one to the other the frames of these messages and the lines of these reports were appended.
pub record Moves (old new : Course) (out0 out1 report0 report1 : List ℕ) : Type 0 where
  pub messages : List ClientMessage
  pub reports : List (List Tree)
  pub lines : List ℕ
  pub sent_are : new.sent ≡ old.sent ++ messages
  pub reports_are : new.reports ≡ old.reports ++ reports
  pub form_is : new.form ≡ old.form
  pub asides_are : new.asides ≡ old.asides
  pub frames : Adds (all_said old.asides messages) out0 out1
  pub are : AreReports old.form reports lines
  pub printed : report1 ≡ report0 ++ (lines ++ closing_text old.form new.phase new.reports)

-- Only the frames of the first of these messages and the lines of the first of these reports were appended.
pub record MovesSome (old new : Course) (out0 out1 report0 report1 : List ℕ) : Type 0 where
  pub messages : List ClientMessage
  pub reports : List (List Tree)
  pub later : List (List Tree)
  pub lines : List ℕ
  pub sent_are : new.sent ≡ old.sent ++ messages
  pub reports_are : new.reports ≡ old.reports ++ (reports ++ later)
  pub form_is : new.form ≡ old.form
  pub asides_are : new.asides ≡ old.asides
  pub frames : AddsSome (all_said old.asides messages) out0 out1
  pub are : AreReports old.form reports lines
  pub printed : report1 ≡ report0 ++ lines

-- ---- one step

-- it stopped with this error, and all was appended but where memory ran out
abbrev pub Stops : Course → Course → List ℕ → List ℕ → List ℕ → List ℕ → ToolErr → Type 0
Stops old new o0 o1 r0 r1 Memory = MovesSome old new o0 o1 r0 r1
Stops old new o0 o1 r0 r1 (Peer status) = (new.phase ≡ Failed (Peer status)) × Moves old new o0 o1 r0 r1
Stops old new o0 o1 r0 r1 Strange = (new.phase ≡ Failed Strange) × Moves old new o0 o1 r0 r1
Stops old new o0 o1 r0 r1 Early = (new.phase ≡ Failed Early) × Moves old new o0 o1 r0 r1
Stops old new o0 o1 r0 r1 _ = ⊥

-- ---- a feed

-- it ended with an error: the stream broke off, or an item, or want of memory, stopped it
abbrev pub FailsFrom : Beginning → List ℕ → Course → List ℕ → List ℕ → List ℕ → List ℕ → ToolErr → Type 0
FailsFrom b bytes old o0 o1 r0 r1 Broken = (rest : List ℕ) × (new : Course) × GathersFrom b bytes rest new × (new.phase ≡ Open) × Breaks rest × Moves old new o0 o1 r0 r1
FailsFrom b bytes old o0 o1 r0 r1 error = (rest : List ℕ) × (new : Course) × GathersFrom b bytes rest new × Stops old new o0 o1 r0 r1 error

-- What a feed makes of it: it goes on, the connection was closed, or it ended with an error.
abbrev pub FeedsFrom : Beginning → List ℕ → Course → Gathering → List ℕ → List ℕ → List ℕ → List ℕ → Result Bool ToolErr → Type 0
FeedsFrom b bytes old g o0 o1 r0 r1 (Ok false) = (rest : List ℕ) × (new : Course) × StandsFrom b bytes rest new g × Moves old new o0 o1 r0 r1
FeedsFrom b bytes old g o0 o1 r0 r1 (Ok true) = (rest : List ℕ) × (new : Course) × GathersFrom b bytes rest new × (new.phase ≡ Closed) × Counts new.reports g × Moves old new o0 o1 r0 r1
FeedsFrom b bytes old g o0 o1 r0 r1 (Err error) = FailsFrom b bytes old o0 o1 r0 r1 error

-- from whatever beginning it was handed bytes before, it took this piece so
abbrev pub FeedsPieceFrom : List ℕ → Gathering → Gathering → List ℕ → List ℕ → List ℕ → List ℕ → Result Bool ToolErr → Type 0
FeedsPieceFrom piece old new o0 o1 r0 r1 answer =
    (b : Beginning) (bytes rest : List ℕ) (c : Course) → IsOpenFrom b bytes rest c old → FeedsFrom b (bytes ++ piece) c new o0 o1 r0 r1 answer

abbrev pub Feeds : ℕ → Plan → List ℕ → Course → Gathering → List ℕ → List ℕ → List ℕ → List ℕ → Result Bool ToolErr → Type 0
Feeds limit plan bytes old g o0 o1 r0 r1 answer = FeedsFrom (beginning limit plan) bytes old g o0 o1 r0 r1 answer

-- whatever it was handed before, it took this piece so
abbrev pub FeedsPiece : List ℕ → Gathering → Gathering → List ℕ → List ℕ → List ℕ → List ℕ → Result Bool ToolErr → Type 0
FeedsPiece piece old new o0 o1 r0 r1 answer =
    (limit : ℕ) (plan : Plan) (bytes rest : List ℕ) (c : Course) → IsOpen limit plan bytes rest c old → Feeds limit plan (bytes ++ piece) c new o0 o1 r0 r1 answer

-- ---- in a hurry

-- The beginning from which it goes on: the same limit and hearing, but so far already.
abbrev pub further : Beginning → Course → Beginning
further b c = record b { course = c }

-- It hurried: from then on it begins anew with what its decoder keeps, or it ended with an error.
abbrev pub HurriesTo : Beginning → List ℕ → Course → Gathering → List ℕ → List ℕ → Result (Unit {0}) ToolErr → Type 0
HurriesTo b rest old g o0 o1 (Ok done) = IsOpenFrom (further b (hurried old)) rest rest (hurried old) g × Moves old (hurried old) o0 o1 [] []
HurriesTo b rest old g o0 o1 (Err error) = (g.phase ≡ Failed error) × Stops old (hurried old) o0 o1 [] [] error

-- from whatever beginning it was handed bytes before, it hurried so
abbrev pub Hurries : Gathering → Gathering → List ℕ → List ℕ → Result (Unit {0}) ToolErr → Type 0
Hurries old new o0 o1 answer = (b : Beginning) (bytes rest : List ℕ) (c : Course) → IsOpenFrom b bytes rest c old → HurriesTo b rest c new o0 o1 answer

-- the phase that a feed leaves
abbrev pub phase_left : Result Bool ToolErr → Phase
phase_left (Ok false) = Open
phase_left (Ok true) = Closed
phase_left (Err error) = Failed error

-- a feed with this answer leaves it so
abbrev pub IsLeftBy : Result Bool ToolErr → Gathering → Type 0
IsLeftBy answer g = g.phase ≡ phase_left answer
