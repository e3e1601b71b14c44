-- What items make of a course that follows a plan.
use Rattle.std.proofs.Common.{◌≡◌, ℕ, List, [], ◌∷◌, ◌++◌, refl, sym, ap, subst, ◌∙◌, inl, inr}
use Rattle.std.specs.Prelude.{◌⊎◌, ◌≢◌}
use Rattle.llrp_tree.specs.declared.fault.Reason.{Reason}
use Rattle.llrp_tree.specs.declared.fault.Reason.TheVariants.{Reserved, Version, MessageType, MessageLength, Short, Value, Count, Utf8, ParamType, Misplaced, TooMany, TooDeep, ParamLength, Extra, Missing}
use Rattle.llrp_stream.specs.declared.item.Item.{Item}
use Rattle.llrp_stream.specs.declared.item.Item.TheVariants.{Msg, Bad}
use Rattle.llrp_session.specs.ClientMachine.{take}
use Rattle.llrp_session.specs.Contents.{Heard}
use Rattle.llrp_session.specs.Reading.{heard_of}
use Rattle.llrp_listing.specs.declared.outcome.ToolErr.TheVariants.{Strange}
use Rattle.llrp_endpoints.specs.declared.course.Phase.{Phase}
use Rattle.llrp_endpoints.specs.declared.course.Phase.TheVariants.{Open, Closed, Failed}
use Rattle.llrp_endpoints.specs.Plan.{Plan}
use Rattle.llrp_endpoints.specs.Gathering.{Course, new_course, ends, after_bad, after_item, goes, follow}
use Rattle.llrp_endpoints.specs.Calls.PlanLaws.{course_of, TakesInOrder, TakesNone, TakesStep, TakesOneByOne}
use Rattle.llrp_endpoints.proofs.PlanClients.{TakesOr, takes_or}
use Rattle.llrp_endpoints.proofs.PlanSteps.{HasAll, Standing, StandsIn, order_in, begins, in_phase, failed_order}
use Rattle.llrp_endpoints.proofs.PlanTakings.{Follows, taking_so}

-- ---- one item

-- a standing client takes a message, or does not expect it
pub takes_so : (limit : ℕ) (plan : Plan) (c : Course) (id : ℕ) (h : Heard) → Standing limit plan c → TakesOr c.client id h (take c.client id h)
takes_so limit plan c id h s =
    elim (s.at) as (λ x. TakesOr c.client id h (take c.client id h)) [
      | inl b ↦ takes_or c.client id h (inl b.fresh)
      | inr w ↦ takes_or c.client id h (inr w.ready)
    ]

-- from the one to the other one step was taken at most, at an item that was awaited for it
pub record Steps (limit : ℕ) (plan : Plan) (c d : Course) (item : Item) : Type 0 where
  pub stands : StandsIn d.phase limit plan d
  pub takes : TakesNone c d ⊎ TakesStep plan c d item

-- no step was taken
same_left : (c : Course) → TakesNone c c
same_left c = record { left = refl; sent_are = refl }

ended_left : (c : Course) (p : Phase) → TakesNone c (ends p c)
ended_left c p = record { left = refl; sent_are = refl }

-- a frame that is no message is passed over, or ends it
pub bad_either : (reason : Reason) (c : Course) → (after_bad reason c ≡ c) ⊎ (after_bad reason c ≡ ends (Failed Strange) c)
bad_either Reserved c = inr refl
bad_either Version c = inr refl
bad_either MessageType c = inl refl
bad_either MessageLength c = inr refl
bad_either Short c = inr refl
bad_either Value c = inr refl
bad_either Count c = inr refl
bad_either Utf8 c = inr refl
bad_either ParamType c = inl refl
bad_either Misplaced c = inr refl
bad_either TooMany c = inr refl
bad_either TooDeep c = inr refl
bad_either ParamLength c = inr refl
bad_either Extra c = inr refl
bad_either Missing c = inr refl

bad_so : (reason : Reason) (limit : ℕ) (plan : Plan) (c : Course) (item : Item) → Standing limit plan c → c.phase ≡ Open → Steps limit plan c (after_bad reason c) item
bad_so reason limit plan c item s opened =
    elim (bad_either reason c) as (λ x. Steps limit plan c (after_bad reason c) item) [
      | inl e ↦ subst (λ (d : Course). Steps limit plan c d item) (sym e) (record { stands = in_phase c.phase Open limit plan c opened s; takes = inl (same_left c) })
      | inr e ↦ subst (λ (d : Course). Steps limit plan c d item) (sym e) (record { stands = failed_order plan c (Failed Strange) s.order; takes = inl (ended_left c (Failed Strange)) })
    ]

pub item_so : (limit : ℕ) (plan : Plan) (c : Course) (item : Item) → Standing limit plan c → c.phase ≡ Open → Steps limit plan c (after_item item c) item
item_so limit plan c (Bad id fault) s opened = bad_so fault.reason limit plan c (Bad id fault) s opened
item_so limit plan c (Msg m) s opened =
    let d : Course = after_item (Msg m) c in
    let f : Follows limit plan c d m.id (heard_of m) = taking_so limit plan c m.id (heard_of m) (take c.client m.id (heard_of m)) s opened (takes_so limit plan c m.id (heard_of m) s) in
    record {
      stands = f.stands;
      takes = elim (f.takes) as (λ x. TakesNone c d ⊎ TakesStep plan c d (Msg m)) [
        | inl none ↦ inl none
        | inr one ↦ inr (record {
          done = one.done;
          parts = one.one.parts;
          step = one.one.step;
          next = one.one.next;
          sent_are = one.one.sent_are;
          message = m;
          item_is = refl;
          awaits = one.awaits;
        })
      ];
    }

-- the same in any phase: nothing follows an end
goes_so : (p : Phase) (limit : ℕ) (plan : Plan) (c : Course) (item : Item) → c.phase ≡ p → StandsIn p limit plan c → Steps limit plan c (goes p item c) item
goes_so Open limit plan c item e s = item_so limit plan c item s e
goes_so Closed limit plan c item e s = record { stands = in_phase c.phase Closed limit plan c e s; takes = inl (same_left c) }
goes_so (Failed error) limit plan c item e s = record { stands = in_phase c.phase (Failed error) limit plan c e s; takes = inl (same_left c) }

-- ---- lists of items

follow_so : (items : List Item) (limit : ℕ) (plan : Plan) (c : Course) → StandsIn c.phase limit plan c → StandsIn (follow items c).phase limit plan (follow items c)
follow_so [] limit plan c s = s
follow_so (item ∷ items) limit plan c s = follow_so items limit plan (goes c.phase item c) (goes_so c.phase limit plan c item refl s).stands

pub stands_so : (limit : ℕ) (plan : Plan) (items : List Item) → StandsIn (course_of limit plan items).phase limit plan (course_of limit plan items)
stands_so limit plan items = follow_so items limit plan (new_course limit plan) (begins limit plan)

pub follow-append : (a b : List Item) (c : Course) → follow (a ++ b) c ≡ follow b (follow a c)
follow-append [] b c = refl
follow-append (item ∷ a) b c = follow-append a b (goes c.phase item c)

-- nothing follows an end
goes_ended : (p : Phase) (item : Item) (c : Course) → p ≢ Open → goes p item c ≡ c
goes_ended Open item c e = absurd (e refl)
goes_ended Closed item c e = refl
goes_ended (Failed error) item c e = refl

pub stays : (items : List Item) (c : Course) → c.phase ≢ Open → follow items c ≡ c
stays [] c e = refl
stays (item ∷ items) c e = ap (follow items) (goes_ended c.phase item c e) ∙ stays items c e

-- ---- the laws

pub in_order : (limit : ℕ) (plan : Plan) (items : List Item) → TakesInOrder plan (course_of limit plan items)
in_order limit plan items = order_in (course_of limit plan items).phase limit plan (course_of limit plan items) (stands_so limit plan items)

pub has_all : (limit : ℕ) (plan : Plan) (items : List Item) → (course_of limit plan items).phase ≡ Closed → HasAll plan (course_of limit plan items)
has_all limit plan items closed = (subst (λ (p : Phase). StandsIn p limit plan (course_of limit plan items)) closed (stands_so limit plan items)).1

pub one_by_one : (limit : ℕ) (plan : Plan) → TakesOneByOne limit plan
one_by_one limit plan items item =
    let c : Course = course_of limit plan items in
    let steps = goes_so c.phase limit plan c item refl (stands_so limit plan items) in
    subst (λ (d : Course). TakesNone c d ⊎ TakesStep plan c d item) (sym (follow-append items (item ∷ []) (new_course limit plan))) steps.takes
