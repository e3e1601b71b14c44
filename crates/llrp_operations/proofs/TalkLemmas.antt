-- What is sent by events one after another, and what a lost connection leaves.
use Rattle.std.proofs.Common.{◌≡◌, ℕ, Bool, true, false, List, [], ◌∷◌, ◌++◌, Option, Some, None, refl, sym, ap, subst, ◌∙◌, append_assoc, if◌then◌else◌, length, arith}
use Rattle.std.proofs.lemmas.List.{append-nil}
use Rattle.llrp_tree.specs.Frame.{Frame}
use Rattle.llrp_tree.specs.declared.TheConstants.{MAX_LIMIT}
use Rattle.llrp_stream.specs.Device.{SinkLog, Wrote}
use Rattle.llrp_stream.proofs.WritingLemmas.{fails_after, wrote_more}
use Rattle.llrp_listing.specs.declared.outcome.ToolErr.{ToolErr}
use Rattle.llrp_ask.specs.Calls.Asking.{Event}
use Rattle.llrp_operations.specs.declared.course.Saying.{Saying}
use Rattle.llrp_operations.specs.declared.course.Stage.TheVariants.{Lost}
use Rattle.llrp_operations.specs.declared.request.Request.{Request}
use Rattle.llrp_operations.specs.Calls.Course.{Course, lose, may_have_changed, stands}
use Rattle.llrp_operations.specs.Calls.Messages.{message_to}
use Rattle.llrp_operations.specs.Calls.Talking.{AreFrames, IsSaid, IsSent, Sends, Talk, cut_off, follow, heard, step, stopped}
use Rattle.llrp_operations.specs.Private.Conversations.{AddsFrame, AddsFrames}

-- ---- frames one after another

pub no_frames_said : (r : Request) (epc : List ℕ) → AreFrames r epc [] []
no_frames_said r epc = record { frames = []; each = tt; octets_are = refl }

pub one_frame_more : (r : Request) (epc : List ℕ) (saying : Saying) (said : List Saying) (frame octets : List ℕ) → Frame (message_to epc saying r) frame MAX_LIMIT → AreFrames r epc said octets
    → AreFrames r epc (saying ∷ said) (frame ++ octets)
one_frame_more r epc saying said frame octets is are = record { frames = frame ∷ are.frames; each = (is, are.each); octets_are = ap (λ (x : List ℕ). frame ++ x) are.octets_are }

-- ---- events one after another

pub follow_more : (id : ℕ) (events more : List Event) (t : Talk) → follow id (events ++ more) t ≡ follow id more (follow id events t)
follow_more id [] more t = refl
follow_more id (event ∷ events) more t = follow_more id events more (step id event t)

pub sent_more : (r : Request) (events more : List Event) (t : Talk) (a b : List ℕ) → IsSent r events t a → IsSent r more (follow r.id events t) b → IsSent r (events ++ more) t (a ++ b)
sent_more r [] more t a b p q = subst (λ (x : List ℕ). IsSent r more t (x ++ b)) (sym p) q
sent_more r (event ∷ events) more t a b p q =
    (p.0, p.1 ++ b, ap (λ (x : List ℕ). x ++ b) p.2 ∙ append_assoc p.0 p.1 b, p.3, sent_more r events more (step r.id event t) p.1 b p.4 q)

pub sent_alone : (r : Request) (event : Event) (t : Talk) (octets : List ℕ) → IsSaid r (heard r.id event t.course) octets → IsSent r (event ∷ []) t octets
sent_alone r event t octets said = (octets, [], sym (append-nil octets), said, refl)

-- ---- writing

pub sends_more : (failed : Bool) (w0 w1 w2 : SinkLog) (done more : List ℕ) → Wrote w0 w1 done → Sends failed w1 w2 more → Sends failed w0 w2 (done ++ more)
sends_more false w0 w1 w2 done more p q = wrote_more w0 w1 w2 done more p q
sends_more true w0 w1 w2 done more p q = fails_after w0 w1 w2 (done ++ more) done more more [] refl (sym (append-nil more)) p q

-- ---- lost connections

lost_if : (c : Course) (b : Bool) → stands c.stage ≡ b → stands (if b then record c { stage = Lost } else c).stage ≡ false
lost_if c true e = refl
lost_if c false e = e

pub lost_stands : (c : Course) → stands (lose c).stage ≡ false
lost_stands c = lost_if c (stands c.stage) refl

apart : (b : Bool) → b ≡ false → b ≡ true → ⊥
apart true f t = cc
apart false f t = cc

-- a connection that stands was not lost
pub stands_written : (failed : Bool) (t : Talk) → stands (cut_off failed t).course.stage ≡ true → failed ≡ false
stands_written false t e = refl
stands_written true t e = absurd (apart (stands (lose t.course).stage) (lost_stands t.course) e)

pub stands_reading : (why : Option ToolErr) (t : Talk) → stands (stopped why t).course.stage ≡ true → why ≡ None
stands_reading None t e = refl
stands_reading (Some error) t e = absurd (apart (stands (lose t.course).stage) (lost_stands t.course) e)

-- the message with the results stays
pub stopped_report : (why : Option ToolErr) (t : Talk) → (stopped why t).report ≡ t.report
stopped_report None t = refl
stopped_report (Some error) t = refl

pub cut_report : (failed : Bool) (t : Talk) → (cut_off failed t).report ≡ t.report
cut_report false t = refl
cut_report true t = refl

-- what may have been changed stays so
lost_may : (c : Course) (b : Bool) → may_have_changed (if b then record c { stage = Lost } else c) ≡ may_have_changed c
lost_may c true = refl
lost_may c false = refl

pub stopped_may : (why : Option ToolErr) (t : Talk) → may_have_changed (stopped why t).course ≡ may_have_changed t.course
stopped_may None t = refl
stopped_may (Some error) t = lost_may t.course (stands t.course.stage)

pub cut_may : (failed : Bool) (t : Talk) → may_have_changed (cut_off failed t).course ≡ may_have_changed t.course
cut_may false t = refl
cut_may true t = lost_may t.course (stands t.course.stage)

-- ---- the loop over what is said

-- whatever the frames of what is left are, they come after those so far
abbrev pub SoFar : Request → (said rest : List Saying) → (old new : List ℕ) → Type 0
SoFar r said rest old new = (octets : List ℕ) × ((more : List ℕ) → AreFrames r r.epc.now rest more → AreFrames r r.epc.now said (octets ++ more)) × (new ≡ old ++ octets)

pub and_more : (r : Request) (said rest later : List Saying) (saying : Saying) (old out new : List ℕ) → rest ≡ saying ∷ later → SoFar r said rest old out → AddsFrame r saying out new → SoFar r said later old new
and_more r said rest later saying old out new is so adds = (
  so.0 ++ adds.0,
  λ more are. subst (AreFrames r r.epc.now said) (sym (append_assoc so.0 adds.0 more))
      (so.1 (adds.0 ++ more) (subst (λ (l : List Saying). AreFrames r r.epc.now l (adds.0 ++ more)) (sym is) (one_frame_more r r.epc.now saying later adds.0 more adds.1 are))),
  adds.2 ∙ ap (λ (x : List ℕ). x ++ adds.0) so.2 ∙ append_assoc old so.0 adds.0,
)

none_left : (rest : List Saying) → length rest ≡ 0 → rest ≡ []
none_left [] e = refl
none_left (x ∷ rest) e = absurd (omega (arith, e))

pub at_last : (r : Request) (said rest : List Saying) (old out : List ℕ) → length rest ≡ 0 → SoFar r said rest old out → AddsFrames r said old out
at_last r said rest old out none so = (
  so.0,
  subst (AreFrames r r.epc.now said) (append-nil so.0) (so.1 [] (subst (λ (l : List Saying). AreFrames r r.epc.now l []) (sym (none_left rest none)) (no_frames_said r r.epc.now))),
  so.2,
)
