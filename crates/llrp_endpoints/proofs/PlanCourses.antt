-- Bytes have one course, which goes on as more bytes come.
use Rattle.std.proofs.Common.{◌≡◌, ℕ, ◌≤◌, List, [], ◌∷◌, ◌++◌, length, refl, sym, ap, subst, ◌∙◌, inl, inr, arith}
use Rattle.std.specs.Prelude.{Result, Ok, Err}
use Rattle.std.proofs.lemmas.List.{append-nil, append_cancel_left}
use Rattle.llrp_tree.specs.declared.TheConstants.{MAX_LIMIT}
use Rattle.llrp_tree.specs.Lawful.{AreOctets}
use Rattle.llrp_tree.specs.declared.fault.Reason.{Reason}
use Rattle.llrp_stream.specs.declared.item.Item.{Item}
use Rattle.llrp_stream.specs.declared.item.Item.TheVariants.{Msg, Bad}
use Rattle.llrp_stream.specs.declared.item.End.{End}
use Rattle.llrp_stream.specs.declared.item.End.TheVariants.{Clean, Rest, Broken, Dead}
use Rattle.llrp_stream.specs.Cuts.{EndsStream, joined, Cuts}
use Rattle.llrp_stream.specs.StreamLaws.{HasOneListingIn}
use Rattle.llrp_stream.specs.Calls.StreamLaws.{ItemsGrowIn}
use Rattle.llrp_stream.proofs.ItemLemmas.{has_one_listing}
use Rattle.llrp_stream.proofs.RunLemmas.{items_grow}
use Rattle.llrp_stream.proofs.Unique.{one_cut}
use Rattle.llrp_session.specs.Refusal.{Refusal}
use Rattle.llrp_session.specs.ClientMachine.{Taking, take}
use Rattle.llrp_session.specs.Reading.{heard_of}
use Rattle.llrp_listing.specs.declared.outcome.ToolErr.TheVariants.{Strange}
use Rattle.llrp_endpoints.specs.declared.course.Phase.{Phase}
use Rattle.llrp_endpoints.specs.declared.course.Phase.TheVariants.{Open, Closed, Failed}
use Rattle.llrp_endpoints.specs.Plan.{hearing_of, Plan}
use Rattle.llrp_endpoints.specs.Gathering.{Course, new_course, ends, after, after_taking, after_bad, after_item, goes, follow, taken}
use Rattle.llrp_endpoints.specs.Calls.PlanLaws.{course_of, HasNoFrame, HasOneCourse, GoesOn, CoursesGoOn}
use Rattle.llrp_endpoints.proofs.GatheringSteps.{More, no_more, more_more, after_more}
use Rattle.llrp_endpoints.proofs.OddLemmas.{taken_then}
use Rattle.llrp_endpoints.proofs.PlanFollowing.{bad_either, stays}

-- ---- the end of the whole frames

-- what has no whole frame ends a stream
ends_some : (rest : List ℕ) → HasNoFrame rest → (end : End) × EndsStream rest end
ends_some [] (inl partial) = (Clean, refl)
ends_some (b ∷ rest) (inl partial) = (Rest (length (b ∷ rest)), (refl, omega arith, partial))
ends_some rest (inr breaks) = (Broken, breaks)

ends_no_frame : (rest : List ℕ) (end : End) → EndsStream rest end → HasNoFrame rest
ends_no_frame rest Clean e = let none : length rest ≡ 0 = ap length e in inl (inl (omega arith))
ends_no_frame rest (Rest n) e = inl e.2
ends_no_frame rest Broken e = inr e
ends_no_frame rest Dead e = absurd e

-- ---- one course

same_rest : (bytes rest tail : List ℕ) (frames others : List (List ℕ)) → frames ≡ others → bytes ≡ joined frames ++ rest → bytes ≡ joined others ++ tail → rest ≡ tail
same_rest bytes rest tail frames others e p q =
    append_cancel_left (joined others) rest tail (ap (λ (x : List (List ℕ)). joined x ++ rest) (sym e) ∙ sym p ∙ q)

pub one_course : (limit : ℕ) (plan : Plan) (bytes : List ℕ) → limit ≤ MAX_LIMIT → AreOctets bytes → HasOneCourse limit plan bytes
one_course limit plan bytes most octets =
    let all : HasOneListingIn plan.set limit bytes = has_one_listing limit bytes most octets in
    let grow : ItemsGrowIn plan.set limit = items_grow limit in
    let cut = all.are.cut in
    record {
      rest = cut.tail;
      course = course_of limit plan (taken (hearing_of plan) all.items (new_course limit plan));
      gathers = record { items = all.items; are = record { frames = all.are.frames; whole = cut.whole; each = cut.each; are = all.are.each }; course_is = refl };
      no_frame = ends_no_frame cut.tail all.end cut.ends;
      only = λ tail other g none.
          let end = ends_some tail none in
          let same : g.items ≡ all.items = all.only_items g.items end.0 (grow.at_the_end bytes g.items tail end.0 g.are end.1) in
          let own : Cuts bytes g.are.frames end.0 = record { tail = tail; whole = g.are.whole; each = g.are.each; ends = end.1 } in
          let frames = one_cut bytes g.are.frames all.are.frames end.0 all.end own cut in
          (same_rest bytes tail cut.tail g.are.frames all.are.frames frames.0 g.are.whole cut.whole, g.course_is ∙ ap (λ (items : List Item). course_of limit plan (taken (hearing_of plan) items (new_course limit plan))) same);
    }

-- ---- more bytes

taking_more : (r : Result Taking Refusal) (c : Course) → More c (after_taking r c)
taking_more (Err refusal) c = record { messages = []; reports = []; sent_are = sym (append-nil c.sent); reports_are = sym (append-nil c.reports); form_is = refl; asides_are = refl }
taking_more (Ok t) c =
    let d : Course = record c { client = t.client; sent = c.sent ++ t.sent } in
    more_more c d (after t.taken d) (record { messages = t.sent; reports = []; sent_are = refl; reports_are = sym (append-nil c.reports); form_is = refl; asides_are = refl }) (after_more t.taken d)

ended_more : (c : Course) → More c (ends (Failed Strange) c)
ended_more c = record { messages = []; reports = []; sent_are = sym (append-nil c.sent); reports_are = sym (append-nil c.reports); form_is = refl; asides_are = refl }

bad_more : (reason : Reason) (c : Course) → More c (after_bad reason c)
bad_more reason c =
    elim (bad_either reason c) as (λ x. More c (after_bad reason c)) [
      | inl e ↦ subst (λ (d : Course). More c d) (sym e) (no_more c)
      | inr e ↦ subst (λ (d : Course). More c d) (sym e) (ended_more c)
    ]

item_more : (item : Item) (c : Course) → More c (after_item item c)
item_more (Msg m) c = taking_more (take c.client m.id (heard_of m)) c
item_more (Bad id fault) c = bad_more fault.reason c

goes_more : (p : Phase) (item : Item) (c : Course) → More c (goes p item c)
goes_more Open item c = item_more item c
goes_more Closed item c = no_more c
goes_more (Failed error) item c = no_more c

pub follow_more : (items : List Item) (c : Course) → More c (follow items c)
follow_more [] c = no_more c
follow_more (item ∷ items) c = more_more c (goes c.phase item c) (follow (item ∷ items) c) (goes_more c.phase item c) (follow_more items (goes c.phase item c))

followed : (later : List Item) (c : Course) → GoesOn c (follow later c)
followed later c =
    let more = follow_more later c in
    record { messages = more.messages; reports = more.reports; sent_are = more.sent_are; reports_are = more.reports_are; end_stays = stays later c }

pub courses_go_on : (limit : ℕ) (plan : Plan) → CoursesGoOn limit plan
courses_go_on limit plan bytes more rest tail old new p q none =
    let grow : ItemsGrowIn plan.set limit = items_grow limit in
    let end = ends_some tail none in
    let later = grow.come_first bytes more p.items q.items rest end.0 p.are (grow.at_the_end (bytes ++ more) q.items tail end.0 q.are end.1) in
    let start = new_course limit plan in
    let next = taken (hearing_of plan) later.0 old in
    let new_is : new ≡ follow next old = q.course_is ∙ ap (λ (is : List Item). follow (taken (hearing_of plan) is start) start) later.1 ∙ sym (taken_then (hearing_of plan) p.items later.0 start old p.course_is) in
    subst (λ (d : Course). GoesOn old d) (sym new_is) (followed next old)
