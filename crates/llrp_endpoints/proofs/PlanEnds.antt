-- Where a course ends, and that it ends as Strange exactly at what was strange to its client.
use Rattle.std.proofs.Common.{◌≡◌, ℕ, ◌≤◌, List, [], ◌∷◌, ◌++◌, refl, sym, ap, subst, ◌∙◌}
use Rattle.std.specs.Prelude.{◌≢◌, Result, Ok, Err}
use Rattle.llrp_stream.specs.declared.item.Item.{Item}
use Rattle.llrp_stream.specs.declared.item.Item.TheVariants.{Msg, Bad}
use Rattle.llrp_session.specs.Refusal.{Refusal}
use Rattle.llrp_session.specs.declared.types.Taken.{Taken}
use Rattle.llrp_session.specs.declared.types.Taken.TheVariants.{Connected, Refused, Reply, Tags, Table, Differs, Event, Note, Kept, Closed as ConnectionEnded}
use Rattle.llrp_session.specs.ClientMachine.{Taking, take}
use Rattle.llrp_session.specs.Reading.{heard_of}
use Rattle.llrp_listing.specs.declared.outcome.ToolErr.TheVariants.{Strange}
use Rattle.llrp_endpoints.specs.declared.course.Phase.{Phase}
use Rattle.llrp_endpoints.specs.declared.course.Phase.TheVariants.{Open, Closed, Failed}
use Rattle.llrp_endpoints.specs.Plan.{Plan}
use Rattle.llrp_endpoints.specs.Gathering.{Course, new_course, after, after_taking, after_item, goes, follow}
use Rattle.llrp_endpoints.specs.Calls.PlanLaws.{course_of, IsValid, IsOtherTable, IsTakenStrangely, IsStrangeTo, MetStrange, StrangeIsTheReaders}
use Rattle.llrp_endpoints.proofs.GatheringSteps.{bad_is_strange}
use Rattle.llrp_endpoints.proofs.PlanSteps.{Standing, StandsIn}
use Rattle.llrp_endpoints.proofs.PlanFollowing.{stands_so, follow-append, stays}
use Rattle.llrp_endpoints.proofs.PlanRefusals.{strange_item}

-- an open course came to its end at one of the items
pub record EndsAt (c : Course) (items : List Item) : Type 0 where
  pub before : List Item
  pub item : Item
  pub later : List Item
  pub parts : items ≡ before ++ item ∷ later
  pub open_is : (follow before c).phase ≡ Open
  pub end_is : follow items c ≡ after_item item (follow before c)

not_open : (p q : Phase) → p ≡ q → q ≢ Open → p ≢ Open
not_open p q e ended o = ended (sym e ∙ o)

end_of : (items : List Item) (c : Course) → c.phase ≡ Open → (follow items c).phase ≢ Open → EndsAt c items
end_of [] c opened ended = absurd (ended opened)
end_of (item ∷ items) c opened ended =
    let d : Course = after_item item c in
    let step : goes c.phase item c ≡ d = ap (λ (p : Phase). goes p item c) opened in
    let here : d.phase ≢ Open → EndsAt c (item ∷ items) = λ over. record {
      before = [];
      item = item;
      later = items;
      parts = refl;
      open_is = opened;
      end_is = ap (follow items) step ∙ stays items d over;
    } in
    elim (d.phase) as (λ p. d.phase ≡ p → EndsAt c (item ∷ items)) [
      | Open ↦ λ o.
          let at = end_of items d o (subst (λ (x : Course). (follow items x).phase ≢ Open) step ended) in
          record {
            before = item ∷ at.before;
            item = at.item;
            later = at.later;
            parts = ap (λ (xs : List Item). item ∷ xs) at.parts;
            open_is = subst (λ (x : Course). (follow at.before x).phase ≡ Open) (sym step) at.open_is;
            end_is = ap (follow items) step ∙ at.end_is ∙ ap (λ (x : Course). after_item at.item (follow at.before x)) (sym step);
          }
      | Closed ↦ λ o. here (not_open d.phase Closed o (λ e. cc))
      | Failed error ↦ λ o. here (not_open d.phase (Failed error) o (λ e. cc))
    ] refl

pub ended_at : (limit : ℕ) (plan : Plan) (items : List Item) → (course_of limit plan items).phase ≢ Open → EndsAt (new_course limit plan) items
ended_at limit plan items ended = end_of items (new_course limit plan) refl ended

pub standing : (limit : ℕ) (plan : Plan) (items : List Item) → (course_of limit plan items).phase ≡ Open → Standing limit plan (course_of limit plan items)
standing limit plan items opened = subst (λ (p : Phase). StandsIn p limit plan (course_of limit plan items)) opened (stands_so limit plan items)

-- ---- what ends as Strange

met : (limit : ℕ) (plan : Plan) (items : List Item) → 4096 ≤ limit → IsValid plan → (course_of limit plan items).phase ≡ Failed Strange → MetStrange limit plan items
met limit plan items least fits z =
    let at = ended_at limit plan items (not_open (course_of limit plan items).phase (Failed Strange) z (λ e. cc)) in
    let c : Course = course_of limit plan at.before in
    record {
      before = at.before;
      item = at.item;
      later = at.later;
      parts = at.parts;
      open_is = at.open_is;
      strange = strange_item limit plan c at.item least fits (standing limit plan at.before at.open_is) at.open_is (ap (λ (x : Course). x.phase) (sym at.end_is) ∙ z);
    }

other_ends : (taken : Taken) (c : Course) → IsOtherTable taken → (after taken c).phase ≡ Failed Strange
other_ends (Differs rospecs) c o = refl
other_ends Connected c o = absurd o
other_ends (Refused status) c o = absurd o
other_ends (Reply status) c o = absurd o
other_ends (Tags tags) c o = absurd o
other_ends (Table rospecs) c o = absurd o
other_ends (Event id state) c o = absurd o
other_ends Note c o = absurd o
other_ends Kept c o = absurd o
other_ends ConnectionEnded c o = absurd o

strange_taking : (r : Result Taking Refusal) (c : Course) → IsTakenStrangely r → (after_taking r c).phase ≡ Failed Strange
strange_taking (Err refusal) c e = refl
strange_taking (Ok t) c e = other_ends t.taken (record c { client = t.client; sent = c.sent ++ t.sent }) e

strange_ends : (c : Course) (item : Item) → IsStrangeTo c.client item → (after_item item c).phase ≡ Failed Strange
strange_ends c (Msg m) e = strange_taking (take c.client m.id (heard_of m)) c e
strange_ends c (Bad id fault) p = ap (λ (x : Course). x.phase) (sym (bad_is_strange fault.reason c p.0 p.1))

met_ends : (limit : ℕ) (plan : Plan) (items : List Item) → MetStrange limit plan items → (course_of limit plan items).phase ≡ Failed Strange
met_ends limit plan items m =
    let c : Course = course_of limit plan m.before in
    let d : Course = after_item m.item c in
    let strange : d.phase ≡ Failed Strange = strange_ends c m.item m.strange in
    let last : goes c.phase m.item c ≡ d = ap (λ (p : Phase). goes p m.item c) m.open_is in
    let whole : course_of limit plan items ≡ d =
    ap (course_of limit plan) m.parts
    ∙ follow-append m.before (m.item ∷ m.later) (new_course limit plan)
    ∙ ap (follow m.later) last
    ∙ stays m.later d (λ e. let no : Failed Strange ≡ Open = sym strange ∙ e in cc) in
    ap (λ (x : Course). x.phase) whole ∙ strange

pub strange_is_the_readers : (limit : ℕ) (plan : Plan) → 4096 ≤ limit → IsValid plan → StrangeIsTheReaders limit plan
strange_is_the_readers limit plan least fits items = (
  λ z. met limit plan items least fits z,
  λ m. met_ends limit plan items m,
)
