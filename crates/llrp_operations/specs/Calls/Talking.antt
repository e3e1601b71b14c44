-- A client that operates on a tag, over the octets of its reader: what it makes of them, and what goes to the reader.
use Rattle.std.specs.Prelude.{◌≡◌, ℕ, ◌&&◌, not, Bool, true, false, List, [], ◌∷◌, ◌++◌, Option, Some, None, option_map, unwrap_or}
use Rattle.std.specs.List.{AllZip, list_any}
use Rattle.llrp_schema.specs.declared.kinds.KindSet.TheVariants.{Standard}
use Rattle.llrp_tree.specs.declared.TheConstants.{MAX_LIMIT}
use Rattle.llrp_tree.specs.Tree.{MessageTree}
use Rattle.llrp_tree.specs.Frame.{Frame}
use Rattle.llrp_stream.specs.declared.item.Item.TheVariants.{Msg, Bad}
use Rattle.std.specs.Io.KnownBytes.{Consumes}
use Rattle.llrp_stream.specs.Cuts.{joined}
use Rattle.llrp_stream.specs.Device.{SourceLog, SinkLog, Wrote}
use Rattle.llrp_stream.specs.Calls.Writing.{Failed}
use Rattle.llrp_stream.specs.Items.{ItemsSoFarIn}
use Rattle.llrp_listing.specs.declared.outcome.ToolErr.{ToolErr}
use Rattle.llrp_listing.specs.declared.outcome.ToolErr.TheVariants.{Read, Write}
use Rattle.llrp_ask.specs.Calls.Asking.{Event, Came, Silence, items_of, silences_of}
use Rattle.llrp_ask.specs.Calls.Run.{HasRead, Stops}
use Rattle.llrp_operations.specs.declared.course.Saying.{Saying}
use Rattle.llrp_operations.specs.declared.request.Request.{Request}
use Rattle.llrp_operations.specs.declared.talk.AccessErr.{AccessErr}
use Rattle.llrp_operations.specs.declared.talk.Talked.{Talked}
use Rattle.llrp_operations.specs.Calls.Changes.{changes}
use Rattle.llrp_operations.specs.Calls.Course.{Course, first_course, lose, may_have_changed, outcome, silent, target}
use Rattle.llrp_operations.specs.Calls.Messages.{hear_message, message_to}

-- what has come of it; the course has said what it said before, so it says nothing
pub record Talk : Type 0 where
  pub course : Course
  pub report : Option MessageTree  -- the message that brought the results
  pub cause : Option ToolErr  -- why nothing more can come

-- the client is connected, and is to change the tag if one of its operations does
abbrev pub first_talk : Request → Talk
first_talk r = record { course = first_course r.epc.now (list_any changes r.operations.now); report = None; cause = None }

-- ---- what happens: a frame comes, or the time for what is waited for is over

-- the course after that, with what it says then
abbrev pub heard : ℕ → Event → Course → Course
heard id (Came (Msg m)) c = hear_message id m c
heard id (Came (Bad bit fault)) c = c
heard id Silence c = silent c.stage c

-- once that is said
abbrev pub unsaid : Course → Course
unsaid c = record c { said = [] }

-- the first message by which results come is kept
abbrev pub kept : Event → (came : Bool) → Option MessageTree → Option MessageTree
kept (Came (Msg m)) true report = Some m
kept (Came (Msg m)) false report = report
kept (Came (Bad bit fault)) came report = report
kept Silence came report = report

abbrev pub step : ℕ → Event → Talk → Talk
step id event t = record t {
  course = unsaid (heard id event t.course);
  report = kept event (not t.course.reported && (heard id event t.course).reported) t.report;
}

abbrev pub follow : ℕ → List Event → Talk → Talk
follow id [] t = t
follow id (event ∷ events) t = follow id events (step id event t)

-- ---- nothing more can come

abbrev pub first_cause : Option ToolErr → ToolErr → Option ToolErr
first_cause None error = Some error
first_cause (Some first) error = Some first

abbrev pub lose_by : ToolErr → Talk → Talk
lose_by error t = record t { course = lose t.course; cause = first_cause t.cause error }

-- reading ended for this reason
abbrev pub stopped : Option ToolErr → Talk → Talk
stopped None t = t
stopped (Some error) t = lose_by error t

-- writing failed
abbrev pub cut_off : (failed : Bool) → Talk → Talk
cut_off false t = t
cut_off true t = lose_by Write t

-- ---- what is sent

-- the octets are the frames of what is said, in order, for the tag with this EPC
pub record AreFrames (r : Request) (epc : List ℕ) (said : List Saying) (octets : List ℕ) : Type 0 where
  pub frames : List (List ℕ)
  pub each : AllZip (λ s frame. Frame (message_to epc s r) frame MAX_LIMIT) said frames
  pub octets_are : octets ≡ joined frames

-- those of what a course has said, for the tag that is meant then
abbrev pub IsSaid : Request → Course → List ℕ → Type 0
IsSaid r c octets = AreFrames r (target c) c.said octets

-- those of what is said while this happens
abbrev pub IsSent : Request → List Event → Talk → List ℕ → Type 0
IsSent r [] t octets = octets ≡ []
IsSent r (event ∷ events) t octets =
    (now : List ℕ) × (later : List ℕ) × (octets ≡ now ++ later) × IsSaid r (heard r.id event t.course) now × IsSent r events (step r.id event t) later

-- all of the octets were written, or writing failed after a front of them
abbrev pub Sends : (failed : Bool) → SinkLog → SinkLog → List ℕ → Type 0
Sends false w0 w1 octets = Wrote w0 w1 octets
Sends true w0 w1 octets = Failed octets w0 w1

-- ---- a conversation

-- What happened, and what came of it: the frames are those of the octets read, and to the reader went the frames of what the course of these events says,
-- and nothing else. A silence that ends the course is a read that failed.
pub record Talks (r : Request) (r0 r1 : SourceLog) (w0 w1 : SinkLog) (talked : Talked) : Type 0 where
  pub bytes : List ℕ
  pub events : List Event
  pub rest : List ℕ
  pub came : ItemsSoFarIn Standard MAX_LIMIT bytes (items_of events) rest
  pub until : SourceLog
  pub read : HasRead r0 until bytes (silences_of events)
  pub why : Option ToolErr
  pub stops : Stops why until r1 rest
  pub octets : List ℕ
  pub sent : IsSent r events (first_talk r) octets
  pub failed : Bool
  pub sends : Sends failed w0 w1 octets
  pub outcome_is : talked.outcome ≡ outcome (cut_off failed (stopped why (follow r.id events (first_talk r)))).course
  pub report_is : talked.report ≡ (follow r.id events (first_talk r)).report
  pub seen_is : option_map (λ epc. epc.items) talked.seen ≡ (cut_off failed (stopped why (follow r.id events (first_talk r)))).course.seen
  pub cause_is : talked.cause ≡ unwrap_or (cut_off failed (stopped why (follow r.id events (first_talk r)))).cause Read
  pub may_is : talked.may_have_changed ≡ may_have_changed (follow r.id events (first_talk r)).course

-- There is no outcome. What happened by then: to the reader went the frames of what the course of these events says, and nothing else. Octets that were read after
-- that led to nothing that was sent. A tag may have been changed if the AccessSpec that changes it was enabled in this course.
pub record Fails (r : Request) (r0 r1 : SourceLog) (w0 w1 : SinkLog) (err : AccessErr) : Type 0 where
  pub bytes : List ℕ
  pub events : List Event
  pub rest : List ℕ
  pub came : ItemsSoFarIn Standard MAX_LIMIT bytes (items_of events) rest
  pub until : SourceLog
  pub read : HasRead r0 until bytes (silences_of events)
  pub later : List ℕ
  pub read_later : Consumes until.left r1.left later
  pub octets : List ℕ
  pub sent : IsSent r events (first_talk r) octets
  pub failed : Bool
  pub sends : Sends failed w0 w1 octets
  pub may_is : err.may_have_changed ≡ may_have_changed (follow r.id events (first_talk r)).course
