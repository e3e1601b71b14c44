-- What was sent before goes before what is sent.
use Rattle.std.proofs.Common.{◌≡◌, ℕ, ◌+◌, ◌*◌, ◌==◌, Bool, true, false, List, [], ◌∷◌, ◌++◌, Option, Some, None, refl, sym, ap, subst, ◌∙◌, arith, append_assoc, add_assoc, zero-add, if◌then◌else◌}
use Rattle.std.specs.Prelude.{map}
use Rattle.std.proofs.lemmas.Bool.Decides.{nat_tests}
use Rattle.llrp_schema.specs.declared.kinds.MsgKind.{MsgKind}
use Rattle.llrp_schema.specs.declared.kinds.MsgKind.TheVariants.{WholeCustomMessage, WholeKeepalive}
use Rattle.llrp_tree.specs.Tree.{MessageTree}
use Rattle.llrp_stream.specs.declared.item.Item.{Item}
use Rattle.llrp_stream.specs.declared.item.Item.TheVariants.{Msg, Bad}
use Rattle.llrp_listing.specs.declared.outcome.ToolErr.{ToolErr}
use Rattle.llrp_ask.specs.declared.step.Step.{Step}
use Rattle.llrp_ask.specs.declared.step.Wait.{Wait}
use Rattle.llrp_ask.specs.declared.step.Wait.TheVariants.{Acceptance, Answer, Pause}
use Rattle.llrp_ask.specs.declared.asking.Phase.{Phase}
use Rattle.llrp_ask.specs.declared.asking.Phase.TheVariants.{Waits, Ended, Failed}
use Rattle.llrp_ask.specs.Calls.Answers.{answer_of, is_message}
use Rattle.llrp_ask.specs.Calls.Run.{stopped}
use Rattle.llrp_ask.specs.Calls.Asking.{Course, Event, Came, Silence, acknowledge, acknowledgement, after, answered, answered_by, fail, follow, hear, hear_in, hear_message, items_of, leave, refused_by, silences_of, silent_in, take_steps, taken, wait_or}

-- a course that sent these octets before
abbrev pub past : List ℕ → Course → Course
past before c = record c { sent = before ++ c.sent }

with_sent : (c : Course) (a b : List ℕ) → a ≡ b → record c { sent = a } ≡ record c { sent = b }
with_sent c a b e = ap (λ (x : List ℕ). record c { sent = x }) e

leave_in : (before : List ℕ) (c : Course) (closing : Bool) → c.closing ≡ closing → leave (past before c) ≡ past before (leave c)
leave_in before c true e = rw e refl
leave_in before c false e = rw (e, append_assoc) refl

pub leave_past : (before : List ℕ) (c : Course) → leave (past before c) ≡ past before (leave c)
leave_past before c = leave_in before c c.closing refl

taken_past : (before : List ℕ) (step : Step) (left : List Step) (c : Course) → taken step left (past before c) ≡ past before (taken step left c)
taken_past before step left c = rw append_assoc refl

wait_past : (before : List ℕ) (wait : Option Wait) (c next other : Course) → other ≡ past before next → wait_or wait (past before c) other ≡ past before (wait_or wait c next)
wait_past before None c next other e = e
wait_past before (Some wait) c next other e = refl

pub steps_past : (before : List ℕ) (steps : List Step) (c : Course) → take_steps steps (past before c) ≡ past before (take_steps steps c)
steps_past before [] c = leave_past before c
steps_past before (step ∷ left) c =
    let t = taken step left c in
    let same : taken step left (past before c) ≡ past before t = taken_past before step left c in
    let next : take_steps left (past before t) ≡ past before (take_steps left t) = steps_past before left t in
    subst (λ (x : Course). wait_or step.wait x (take_steps left x) ≡ past before (wait_or step.wait t (take_steps left t))) (sym same) (wait_past before step.wait t (take_steps left t) (take_steps left (past before t)) next)

next_in : (before : List ℕ) (c : Course) → take_steps c.left (past before c) ≡ past before (take_steps c.left c)
next_in before c = steps_past before c.left c

answered_zero : (before : List ℕ) (wait : Wait) (status : ℕ) (zero : Bool) (c : Course) → (status == 0) ≡ zero → answered wait status (past before c) ≡ past before (answered wait status c)
answered_zero before Acceptance status true c e = rw e (next_in before c)
answered_zero before Acceptance status false c e = rw e refl
answered_zero before (Answer kind id) status true c e = rw e (next_in before c)
answered_zero before (Answer kind id) status false c e = rw e (next_in before (refused_by status c))
answered_zero before (Pause milliseconds) status zero c e = refl

answered_past : (before : List ℕ) (wait : Wait) (status : Option ℕ) (c : Course) → answered_by wait status (past before c) ≡ past before (answered_by wait status c)
answered_past before wait None c = refl
answered_past before wait (Some status) c = answered_zero before wait status (status == 0) c refl

hear_in_past : (before : List ℕ) (phase : Phase) (m : MessageTree) (c : Course) → hear_in phase m (past before c) ≡ past before (hear_in phase m c)
hear_in_past before (Waits wait) m c = answered_past before wait (answer_of wait m) c
hear_in_past before Ended m c = refl
hear_in_past before (Failed error) m c = refl

acknowledge_past : (before : List ℕ) (phase : Phase) (id : ℕ) (c : Course) → acknowledge phase id (past before c) ≡ past before (acknowledge phase id c)
acknowledge_past before (Waits wait) id c = with_sent c _ _ (append_assoc before c.sent (acknowledgement c.head id))
acknowledge_past before Ended id c = refl
acknowledge_past before (Failed error) id c = refl

hear_by : (before : List ℕ) (m : MessageTree) (c : Course) (alive : Bool) → is_message m WholeKeepalive ≡ alive → hear_message m (past before c) ≡ past before (hear_message m c)
hear_by before m c true e = rw e (acknowledge_past before c.phase m.id c)
hear_by before m c false e = rw e (hear_in_past before c.phase m c)

hear_past : (before : List ℕ) (m : MessageTree) (c : Course) → hear m (past before c) ≡ past before (hear m c)
hear_past before m c = hear_by before m (record c { head = 4 * m.version }) (is_message m WholeKeepalive) refl

silent_past : (before : List ℕ) (phase : Phase) (c : Course) → silent_in phase (past before c) ≡ past before (silent_in phase c)
silent_past before (Waits Acceptance) c = refl
silent_past before (Waits (Pause milliseconds)) c = next_in before c
silent_past before (Waits (Answer kind id)) c = elim kind as (λ (k : MsgKind). silent_in (Waits (Answer k id)) (past before c) ≡ past before (silent_in (Waits (Answer k id)) c)) [ WholeCustomMessage ↦ next_in before c | _ ↦ refl ]
silent_past before Ended c = refl
silent_past before (Failed error) c = refl

after_past : (before : List ℕ) (event : Event) (c : Course) → after event (past before c) ≡ past before (after event c)
after_past before (Came (Msg m)) c = hear_past before m c
after_past before (Came (Bad id fault)) c = refl
after_past before Silence c = silent_past before c.phase c

pub follow_past : (before : List ℕ) (events : List Event) (c : Course) → follow events (past before c) ≡ past before (follow events c)
follow_past before [] c = refl
follow_past before (event ∷ events) c = ap (follow events) (after_past before event c) ∙ follow_past before events (after event c)

fail_past : (before : List ℕ) (phase : Phase) (error : ToolErr) (c : Course) → fail phase error (past before c) ≡ past before (fail phase error c)
fail_past before (Waits wait) error c = refl
fail_past before Ended error c = refl
fail_past before (Failed first) error c = refl

pub stopped_past : (before : List ℕ) (why : Option ToolErr) (c : Course) → stopped why (past before c) ≡ past before (stopped why c)
stopped_past before None c = refl
stopped_past before (Some error) c = fail_past before c.phase error c

-- events one after another
pub follow_more : (events more : List Event) (c : Course) → follow (events ++ more) c ≡ follow more (follow events c)
follow_more [] more c = refl
follow_more (event ∷ events) more c = follow_more events more (after event c)

pub items_more : (events more : List Event) → items_of (events ++ more) ≡ items_of events ++ items_of more
items_more [] more = refl
items_more (Came item ∷ events) more = ap (λ (l : List Item). item ∷ l) (items_more events more)
items_more (Silence ∷ events) more = items_more events more

pub silences_more : (events more : List Event) → silences_of (events ++ more) ≡ silences_of events + silences_of more
silences_more [] more = sym (zero-add (silences_of more))
silences_more (Came item ∷ events) more = silences_more events more
silences_more (Silence ∷ events) more = ap (λ (n : ℕ). 1 + n) (silences_more events more) ∙ sym (add_assoc 1 (silences_of events) (silences_of more))

pub items_came : (items : List Item) → items_of (map Came items) ≡ items
items_came [] = refl
items_came (item ∷ items) = ap (λ (l : List Item). item ∷ l) (items_came items)

pub silences_came : (items : List Item) → silences_of (map Came items) ≡ 0
silences_came [] = refl
silences_came (item ∷ items) = silences_came items

-- a failure sends nothing
fail_sent : (phase : Phase) (error : ToolErr) (c : Course) → (fail phase error c).sent ≡ c.sent
fail_sent (Waits wait) error c = refl
fail_sent Ended error c = refl
fail_sent (Failed first) error c = refl

pub stopped_sent : (why : Option ToolErr) (c : Course) → (stopped why c).sent ≡ c.sent
stopped_sent None c = refl
stopped_sent (Some error) c = fail_sent c.phase error c

-- a course that was stopped waits for nothing
fail_waits : (phase : Phase) (error : ToolErr) (c : Course) (wait : Wait) → c.phase ≡ phase → (fail phase error c).phase ≡ Waits wait → ⊥
fail_waits (Waits first) error c wait e is = cc
fail_waits Ended error c wait e is = let bad : Ended ≡ Waits wait = sym e ∙ is in cc
fail_waits (Failed first) error c wait e is = let bad : Failed first ≡ Waits wait = sym e ∙ is in cc

pub stopped_waits : (why : Option ToolErr) (c : Course) (wait : Wait) → (stopped why c).phase ≡ Waits wait → why ≡ None
stopped_waits None c wait is = refl
stopped_waits (Some error) c wait is = absurd (fail_waits c.phase error c wait refl is)

-- a status that is not 0
is_zero : (n : ℕ) → (n == 0) ≡ true → n ≡ 0
is_zero n e = grind (arith, nat_tests)

by_test : (status : ℕ) (zero : Bool) → (status == 0) ≡ zero → (status ≡ 0 → ⊥) → (status == 0) ≡ false
by_test status true e other = absurd (other (is_zero status e))
by_test status false e other = e

pub not_granted : (status : ℕ) (a b : Course) → (status ≡ 0 → ⊥) → (if status == 0 then a else b) ≡ b
not_granted status a b other = rw (by_test status (status == 0) refl other) refl
