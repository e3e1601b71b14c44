-- What the items of a reader make of a client that follows a plan.
use Rattle.std.specs.Prelude.{◌≡◌, ℕ, ◌==◌, ◌&&◌, not, Bool, true, false, if◌then◌else◌, List, [], ◌∷◌, ◌++◌, Option, None, Some, Result, Ok, Err}
use Rattle.llrp_tree.specs.Tree.{Tree}
use Rattle.llrp_tree.specs.declared.fault.Reason.{Reason}
use Rattle.llrp_tree.specs.declared.fault.Reason.TheVariants.{MessageType, ParamType}
use Rattle.llrp_stream.specs.declared.item.Item.{Item}
use Rattle.llrp_stream.specs.declared.item.Item.TheVariants.{Msg, Bad}
use Rattle.llrp_stream.specs.Items.{ItemsSoFarIn}
use Rattle.llrp_session.specs.Refusal.{Refusal}
use Rattle.llrp_session.specs.declared.types.Command.{Command}
use Rattle.llrp_session.specs.declared.types.Command.TheVariants.{GetReport, Close}
use Rattle.llrp_session.specs.declared.types.Taken.{Taken}
use Rattle.llrp_session.specs.declared.types.Taken.TheVariants.{Connected, Refused, Reply, Tags, Table, Differs, Event, Note, Kept, Closed as ConnectionEnded}
use Rattle.llrp_session.specs.declared.types.ClientPhase.{ClientPhase}
use Rattle.llrp_session.specs.declared.types.ClientPhase.TheVariants.{Fresh, Ready, Closed as PhaseClosed}
use Rattle.llrp_session.specs.declared.types.Pending.{Pending}
use Rattle.llrp_session.specs.Contents.{ClientMessage, Heard, HeardResponse, HeardError, HeardReport, HeardKeepalive, HeardNotification, HeardOther}
use Rattle.llrp_session.specs.ClientMachine.{Client, Sending, Taking, command, take, new_client}
use Rattle.llrp_session.specs.Reading.{heard_of}
use Rattle.llrp_listing.specs.declared.outcome.ToolErr.TheVariants.{Peer, Strange, Early}
use Rattle.llrp_endpoints.specs.declared.course.Awaits.{Awaits}
use Rattle.llrp_endpoints.specs.declared.course.Awaits.TheVariants.{Answer, TaggedReport, Report, End}
use Rattle.llrp_endpoints.specs.declared.course.Phase.{Phase}
use Rattle.llrp_endpoints.specs.declared.course.Phase.TheVariants.{Open, Closed, Failed}
use Rattle.llrp_endpoints.specs.declared.course.Step.{Step}
use Rattle.llrp_endpoints.specs.declared.course.Step.TheVariants.{Send, AwaitTags}
use Rattle.llrp_endpoints.specs.declared.form.LineForm.{LineForm}
use Rattle.llrp_endpoints.specs.Asides.{Asides}
use Rattle.llrp_endpoints.specs.Heard.{heard}
use Rattle.llrp_endpoints.specs.declared.hearing.Hearing.{Hearing}
use Rattle.llrp_endpoints.specs.Plan.{Plan, hearing_of, steps}
use Rattle.llrp_endpoints.specs.TagLines.{total_line}

-- the last line, where the connection was closed
abbrev pub closing_text : LineForm → Phase → List (List Tree) → List ℕ
closing_text form Closed reports = total_line form reports
closing_text form Open reports = []
closing_text form (Failed error) reports = []

-- how far it is
pub record Course : Type 0 where
  pub client : Client
  pub form : LineForm  -- the form of its lines
  pub asides : Asides  -- what it says besides the plan
  pub left : List Step  -- the plan's steps that are not taken yet
  pub awaits : Awaits  -- what is awaited before the next one
  pub sent : List ClientMessage  -- all that the client has sent
  pub reports : List (List Tree)  -- the TagReportData of each report that came
  pub phase : Phase

-- the reader is connected, and has not accepted the client yet
abbrev pub new_course : ℕ → Plan → Course
new_course limit plan = record { client = new_client limit 1; form = plan.form; asides = plan.asides; left = steps plan; awaits = Answer; sent = []; reports = []; phase = Open }

-- it ends so
abbrev pub ends : Phase → Course → Course
ends phase c = record c { phase = phase }

-- ---- the next step

-- what is awaited after a command: for GET_REPORT a report, for CLOSE_CONNECTION the connection's end, for another its response
abbrev pub awaited_for : Command → Awaits
awaited_for GetReport = Report
awaited_for Close = End
awaited_for _ = Answer

-- the client sends a command; one that it refused would be strange
abbrev pub sends_by : Result Sending Refusal → Command → List Step → Course → Course
sends_by (Ok sending) k left c = record c { client = sending.client; left = left; awaits = awaited_for k; sent = c.sent ++ sending.message ∷ [] }
sends_by (Err refusal) k left c = ends (Failed Strange) c

-- a step is taken, and these are left
abbrev pub takes_step : Step → List Step → Course → Course
takes_step (Send k) left c = sends_by (command c.client k) k left c
takes_step AwaitTags left c = record c { left = left; awaits = TaggedReport }

abbrev pub steps_on : List Step → Course → Course
steps_on [] c = c
steps_on (step ∷ left) c = takes_step step left c

-- the next step is taken, if one is left
abbrev pub send_next : Course → Course
send_next c = steps_on c.left c

-- ---- messages

-- a report that was awaited leads on; one without a tag is not such where a tag is awaited
abbrev pub reported : Awaits → List Tree → Course → Course
reported Report tags c = send_next c
reported TaggedReport [] c = c
reported TaggedReport (tag ∷ tags) c = send_next c
reported Answer tags c = c
reported End tags c = c

-- the end of the connection is fine only where it is awaited
abbrev pub ended : Awaits → Phase
ended End = Closed
ended Answer = Failed Early
ended TaggedReport = Failed Early
ended Report = Failed Early

-- the connection, a response of status 0, and a table that is the client's view lead on; one that differs is strange
abbrev pub after : Taken → Course → Course
after Connected c = send_next c
after (Refused status) c = ends (Failed (Peer status)) c
after (Reply status) c = if status == 0 then send_next c else ends (Failed (Peer status)) c
after (Tags tags) c = reported c.awaits tags (record c { reports = c.reports ++ tags ∷ [] })
after (Table rospecs) c = send_next c
after (Differs rospecs) c = ends (Failed Strange) c
after (Event id state) c = c
after Note c = c
after Kept c = c
after ConnectionEnded c = ends (ended c.awaits) c

-- what the client answers itself is sent first
abbrev pub after_taking : Result Taking Refusal → Course → Course
after_taking (Ok taking) c = after taking.taken (record c { client = taking.client; sent = c.sent ++ taking.sent })
after_taking (Err refusal) c = ends (Failed Strange) c

-- of the frames that are no messages those of unknown types are passed over
abbrev pub after_bad : Reason → Course → Course
after_bad MessageType c = c
after_bad ParamType c = c
after_bad _ c = ends (Failed Strange) c

abbrev pub after_item : Item → Course → Course
after_item (Msg m) c = after_taking (take c.client m.id (heard_of m)) c
after_item (Bad id fault) c = after_bad fault.reason c

-- ---- lists of items

-- nothing follows an end
abbrev pub goes : Phase → Item → Course → Course
goes Open item c = after_item item c
goes Closed item c = c
goes (Failed error) item c = c

abbrev pub follow : List Item → Course → Course
follow [] c = c
follow (item ∷ items) c = follow items (goes c.phase item c)

-- ---- what is passed over

-- the reader has accepted the client, and the connection is up
abbrev pub is_ready : ClientPhase → Bool
is_ready Fresh = false
is_ready Ready = true
is_ready PhaseClosed = false

-- a request is pending under this id
abbrev pub is_pending : ℕ → Option Pending → Bool
is_pending id None = false
is_pending id (Some p) = p.id == id

-- it is no response, and nothing that a reader says by itself
abbrev pub is_other : Heard → Bool
is_other (HeardResponse operation status rospecs) = false
is_other (HeardError status) = false
is_other (HeardReport tags) = false
is_other HeardKeepalive = false
is_other (HeardNotification n) = false
is_other HeardOther = true

-- odd to a client that its reader has accepted are such a message, and a frame with a fault that does not have the id of the pending request
abbrev pub is_odd : Client → Item → Bool
is_odd a (Msg m) = is_ready a.phase && is_other (heard_of m)
is_odd a (Bad id fault) = is_ready a.phase && not (is_pending id a.pending)

abbrev pub unless_odd : Bool → Item → List Item
unless_odd true item = []
unless_odd false item = item ∷ []

-- of items those that are not odd where they come
abbrev pub without_odd : List Item → Course → List Item
without_odd [] c = []
without_odd (item ∷ items) c = unless_odd (is_odd c.client item) item ++ without_odd items (follow (unless_odd (is_odd c.client item) item) c)

abbrev pub heeded : (passes : Bool) → List Item → Course → List Item
heeded false items c = items
heeded true items c = without_odd items c

-- what a client that hears so, and is so far, takes of its reader's items: what is passed over is as if it had not come
abbrev pub taken : Hearing → List Item → Course → List Item
taken h items c = heeded h.passes (heard h items) c

-- ---- how far it is

-- how a client begins: its limit, how it hears its reader, and how far it is
pub record Beginning : Type 0 where
  pub limit : ℕ
  pub hearing : Hearing
  pub course : Course

-- as new, with a plan
abbrev pub beginning : ℕ → Plan → Beginning
beginning limit plan = record { limit = limit; hearing = hearing_of plan; course = new_course limit plan }

-- A client that began so is so far once the items of the bytes' first frames came; this is what follows those frames.
pub record GathersFrom (b : Beginning) (bytes rest : List ℕ) (course : Course) : Type 0 where
  pub items : List Item
  pub are : ItemsSoFarIn b.hearing.set b.limit bytes items rest
  pub course_is : course ≡ follow (taken b.hearing items b.course) b.course

-- A client with this limit that follows the plan is so far.
abbrev pub Gathers : (limit : ℕ) → Plan → (bytes rest : List ℕ) → Course → Type 0
Gathers limit plan bytes rest course = GathersFrom (beginning limit plan) bytes rest course

-- ---- in a hurry

-- the steps without those that only await a report
abbrev pub without_waits : List Step → List Step
without_waits [] = []
without_waits (Send k ∷ left) = Send k ∷ without_waits left
without_waits (AwaitTags ∷ left) = without_waits left

-- a wait for a report with a tag is over
abbrev pub pressed : Awaits → Course → Course
pressed TaggedReport c = send_next c
pressed Answer c = c
pressed Report c = c
pressed End c = c

-- no more reports are awaited, and the plan goes on to its end
abbrev pub hurried : Course → Course
hurried c = pressed c.awaits (record c { left = without_waits c.left })
