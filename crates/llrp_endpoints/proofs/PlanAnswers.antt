-- A message that is awaited leads on to the next command.
use Rattle.std.proofs.Common.{◌≡◌, ℕ, ◌+◌, ◌≤◌, ◌==◌, Bool, true, false, cond, List, [], ◌∷◌, ◌++◌, length, refl, sym, ap, subst, ◌∙◌, inl, inr, arith}
use Rattle.std.specs.Prelude.{◌≢◌, ◌⊎◌, ◌&&◌, Option, None, Some, Ok}
use Rattle.std.proofs.lemmas.Bool.{eq-eqb}
use Rattle.std.proofs.lemmas.List.{append_cancel_right}
use Rattle.llrp_tree.specs.Tree.{Tree, MessageTree}
use Rattle.llrp_stream.specs.declared.item.Item.TheVariants.{Msg}
use Rattle.llrp_session.specs.declared.types.ClientPhase.{ClientPhase}
use Rattle.llrp_session.specs.declared.types.ClientPhase.TheVariants.{Fresh, Ready}
use Rattle.llrp_session.specs.declared.types.Command.{Command}
use Rattle.llrp_session.specs.declared.types.Command.TheVariants.{Add, Delete, Start, Stop, Enable, Disable, GetRospecs, SetKeepalive, GetReport, Close}
use Rattle.llrp_session.specs.declared.types.Operation.{Operation}
use Rattle.llrp_session.specs.declared.types.Operation.TheVariants.{Adding, Deleting, Starting, Stopping, Enabling, Disabling, Configuring, Closing, Listing}
use Rattle.llrp_session.specs.declared.types.Pending.{Pending}
use Rattle.llrp_session.specs.declared.types.Taken.TheVariants.{Connected, Reply, Tags, Table, Differs}
use Rattle.llrp_session.specs.Contents.{Heard, HeardResponse, HeardError, HeardReport}
use Rattle.llrp_session.specs.ClientMachine.{Client, Taking, take, take_in, take_ready, take_response, answered, failed, attempted, takes, unexpected, granted, cleared, listed, awaited, is_response_to, is_view}
use Rattle.llrp_session.specs.Reading.{heard_of}
use Rattle.llrp_session.proofs.Following.{LeavesOpen}
use Rattle.llrp_endpoints.specs.declared.course.Awaits.{Awaits}
use Rattle.llrp_endpoints.specs.declared.course.Awaits.TheVariants.{Report}
use Rattle.llrp_endpoints.specs.declared.course.Phase.{Phase}
use Rattle.llrp_endpoints.specs.declared.course.Phase.TheVariants.{Open}
use Rattle.llrp_endpoints.specs.declared.course.Step.{Step}
use Rattle.llrp_endpoints.specs.declared.course.Step.TheVariants.{Send, AwaitTags}
use Rattle.llrp_endpoints.specs.Plan.{Plan}
use Rattle.llrp_endpoints.specs.Calls.Plans.{commands_in}
use Rattle.llrp_endpoints.specs.Gathering.{Course, new_course, awaited_for, after_item, goes}
use Rattle.llrp_endpoints.specs.Private.GatheringStands.{awaited_after}
use Rattle.llrp_endpoints.specs.Calls.PlanLaws.{course_of, IsValid, AwaitsReport, LeadsOn, Accepts, Answers, ListsView, IsAskedBy, IsAwaitedAfter, TakesStep, TakesWhereAwaited}
use Rattle.llrp_endpoints.proofs.PlanCommands.{last_closes, same_last, same_before}
use Rattle.llrp_endpoints.proofs.PlanSteps.{Standing, StandsIn, pending_after}
use Rattle.llrp_endpoints.proofs.PlanFollowing.{Steps, item_so, stands_so, follow-append}
use Rattle.llrp_endpoints.proofs.PlanLeads.{Led, led, is_granted}

-- ---- what the client takes it for

-- the client takes it, and it leads on
abbrev Leads : Client → Awaits → ℕ → Heard → Type 0
Leads client awaits id h = (t : Taking) × (take client id h ≡ Ok t) × LeadsOn t.taken awaits

joins : (d : Client) (awaits : Awaits) (id : ℕ) (h : Heard) → d.phase ≡ Fresh → Accepts h → Leads d awaits id h
unfolding take
joins d awaits id h fresh (n, is, accepts) =
    let t : Taking = record { taken = Connected; sent = []; client = record d { phase = Ready } } in
    (t, ap (λ (p : ClientPhase). take_in p d id h) fresh ∙ ap (λ (x : Heard). take_in Fresh d id x) is ∙ ap (attempted d) accepts, tt)

reports : (d : Client) (awaits : Awaits) (id : ℕ) (h : Heard) (tags : List Tree) → d.phase ≡ Ready → AwaitsReport awaits tags → h ≡ HeardReport tags → Leads d awaits id h
unfolding take
reports d awaits id h tags ready w is =
    let t : Taking = record { taken = Tags tags; sent = []; client = d } in
    (t, ap (λ (p : ClientPhase). take_in p d id h) ready ∙ ap (take_ready d id) is, w)

responds : (d : Client) (awaits : Awaits) (p : Pending) (id : ℕ) (h : Heard) (operation : Operation) (ts : List Tree) → d.phase ≡ Ready → d.pending ≡ Some p → h ≡ HeardResponse operation 0 ts → is_response_to p id operation ≡ true → LeavesOpen operation
    → Leads d awaits id h
unfolding take
responds d awaits p id h operation ts ready waits is same still =
    let t : Taking = record { taken = Reply 0; sent = []; client = record d { pending = None; view = granted p.operation p.rospec d.view } } in (
      t,
      ap (λ (x : ClientPhase). take_in x d id h) ready
          ∙ ap (take_ready d id) is
          ∙ ap (λ (o : Option Pending). answered o d id operation 0 ts) waits
          ∙ ap (λ (b : Bool). cond b (take_response operation d p 0 ts) unexpected) same
          ∙ is_granted operation d p ts still,
      refl,
    )

lists : (d : Client) (awaits : Awaits) (p : Pending) (id : ℕ) (h : Heard) (ts : List Tree) → d.phase ≡ Ready → d.pending ≡ Some p → h ≡ HeardResponse Listing 0 ts → is_response_to p id Listing ≡ true → is_view ts d.view ≡ true
    → Leads d awaits id h
unfolding take
lists d awaits p id h ts ready waits is same view =
    let t : Taking = record { taken = Table ts; sent = []; client = cleared d } in (
      t,
      ap (λ (x : ClientPhase). take_in x d id h) ready
          ∙ ap (take_ready d id) is
          ∙ ap (λ (o : Option Pending). answered o d id Listing 0 ts) waits
          ∙ ap (λ (b : Bool). cond b (listed d 0 ts) unexpected) same
          ∙ ap (λ (b : Bool). takes (cond b (Table ts) (Differs ts)) (cleared d)) view,
      tt,
    )

fails : (d : Client) (awaits : Awaits) (p : Pending) (id : ℕ) (h : Heard) → d.phase ≡ Ready → d.pending ≡ Some p → h ≡ HeardError 0 → id ≡ p.id → Leads d awaits id h
unfolding take
fails d awaits p id h ready waits is same =
    let t : Taking = record { taken = Reply 0; sent = []; client = cleared d } in (
      t,
      ap (λ (x : ClientPhase). take_in x d id h) ready
          ∙ ap (take_ready d id) is
          ∙ ap (λ (o : Option Pending). failed o d id 0) waits
          ∙ ap (λ (b : Bool). cond b (takes (Reply 0) (cleared d)) unexpected) (eq-eqb p.id id (sym same)),
      refl,
    )

-- ---- only CLOSE_CONNECTION has its response

and_false : (b : Bool) → (b && false) ≡ true → ⊥
and_false true e = cc
and_false false e = cc

abbrev IsNotClosing : Operation → Type 0
IsNotClosing Closing = ⊥
IsNotClosing Adding = Unit {0}
IsNotClosing Deleting = Unit {0}
IsNotClosing Starting = Unit {0}
IsNotClosing Stopping = Unit {0}
IsNotClosing Enabling = Unit {0}
IsNotClosing Disabling = Unit {0}
IsNotClosing Configuring = Unit {0}
IsNotClosing Listing = Unit {0}

other_kind : (operation : Operation) (n id rospec : ℕ) → IsNotClosing operation → is_response_to (record { id = n; operation = operation; rospec = rospec }) id Closing ≡ true → ⊥
other_kind Adding n id rospec still r = and_false (n == id) r
other_kind Deleting n id rospec still r = and_false (n == id) r
other_kind Starting n id rospec still r = and_false (n == id) r
other_kind Stopping n id rospec still r = and_false (n == id) r
other_kind Enabling n id rospec still r = and_false (n == id) r
other_kind Disabling n id rospec still r = and_false (n == id) r
other_kind Configuring n id rospec still r = and_false (n == id) r
other_kind Listing n id rospec still r = and_false (n == id) r
other_kind Closing n id rospec still r = absurd still

not_closing : (n : ℕ) (operation : Operation) (rospec id : ℕ) (p : Pending) → IsNotClosing operation → Some (record { id = n; operation = operation; rospec = rospec }) ≡ Some p → is_response_to p id Closing ≡ true → ⊥
not_closing n operation rospec id p still e r =
    let own : Pending = record { id = n; operation = operation; rospec = rospec } in
    let same : p ≡ own = cc in
    other_kind operation n id rospec still (subst (λ (x : Pending). is_response_to x id Closing ≡ true) same r)

not_awaited : (k : Command) (n id : ℕ) (p : Pending) → awaited n k ≡ Some p → k ≢ Close → is_response_to p id Closing ≡ true → ⊥
not_awaited (Add spec) n id p e still r = not_closing n Adding _ id p tt e r
not_awaited (Delete rospec) n id p e still r = not_closing n Deleting rospec id p tt e r
not_awaited (Start rospec) n id p e still r = not_closing n Starting rospec id p tt e r
not_awaited (Stop rospec) n id p e still r = not_closing n Stopping rospec id p tt e r
not_awaited (Enable rospec) n id p e still r = not_closing n Enabling rospec id p tt e r
not_awaited (Disable rospec) n id p e still r = not_closing n Disabling rospec id p tt e r
not_awaited GetRospecs n id p e still r = not_closing n Listing 0 id p tt e r
not_awaited (SetKeepalive ms) n id p e still r = not_closing n Configuring 0 id p tt e r
not_awaited GetReport n id p e still r = cc
not_awaited Close n id p e still r = absurd (still refl)

leaves_open : (operation : Operation) (k : Command) (n id : ℕ) (p : Pending) → awaited n k ≡ Some p → k ≢ Close → is_response_to p id operation ≡ true → LeavesOpen operation ⊎ (operation ≡ Listing)
leaves_open Adding k n id p e still r = inl tt
leaves_open Deleting k n id p e still r = inl tt
leaves_open Starting k n id p e still r = inl tt
leaves_open Stopping k n id p e still r = inl tt
leaves_open Enabling k n id p e still r = inl tt
leaves_open Disabling k n id p e still r = inl tt
leaves_open Configuring k n id p e still r = inl tt
leaves_open Listing k n id p e still r = inr refl
leaves_open Closing k n id p e still r = absurd (not_awaited k n id p e still r)

polls : (k : Command) (n : ℕ) → awaited n k ≡ None → awaited_for k ≡ Report
polls GetReport n e = refl
polls (Add spec) n e = cc
polls (Delete id) n e = cc
polls (Start id) n e = cc
polls (Stop id) n e = cc
polls (Enable id) n e = cc
polls (Disable id) n e = cc
polls GetRospecs n e = cc
polls (SetKeepalive ms) n e = cc
polls Close n e = cc

-- ---- what is awaited

by_operation : (d : Client) (awaits : Awaits) (p : Pending) (id : ℕ) (h : Heard) (operation : Operation) (ts : List Tree) → d.phase ≡ Ready → d.pending ≡ Some p → h ≡ HeardResponse operation 0 ts → is_response_to p id operation ≡ true
    → LeavesOpen operation ⊎ (operation ≡ Listing) → ListsView d.view h → Leads d awaits id h
by_operation d awaits p id h operation ts ready waits is same (inl still) view = responds d awaits p id h operation ts ready waits is same still
by_operation d awaits p id h operation ts ready waits is same (inr listing) view =
    let is_listing : h ≡ HeardResponse Listing 0 ts = is ∙ ap (λ (o : Operation). HeardResponse o 0 ts) listing in
    lists d awaits p id h ts ready waits is_listing (subst (λ (o : Operation). is_response_to p id o ≡ true) listing same) (subst (ListsView d.view) is_listing view)

answered_so : (o : Option Pending) (d : Client) (awaits : Awaits) (n : ℕ) (k : Command) (id : ℕ) (h : Heard) → d.phase ≡ Ready → d.pending ≡ o → awaited n k ≡ o → awaits ≡ awaited_for k → k ≢ Close → Answers o d.view id h → Leads d awaits id h
answered_so None d awaits n k id h ready waits e w still (tags, is) = reports d awaits id h tags ready (subst (λ (a : Awaits). AwaitsReport a tags) (sym (w ∙ polls k n e)) tt) is
answered_so (Some p) d awaits n k id h ready waits e w still (inl r, view) = by_operation d awaits p id h r.0 r.1 ready waits r.2 r.3 (leaves_open r.0 k n id p e still r.3) view
answered_so (Some p) d awaits n k id h ready waits e w still (inr r, view) = fails d awaits p id h ready waits r.0 r.1

-- what the last step asks for leads on
by_step : (step : Step) (d : Client) (awaits : Awaits) (n id : ℕ) (h : Heard) → d.phase ≡ Ready → d.pending ≡ pending_after step n → awaits ≡ awaited_after step → step ≢ Send Close → IsAskedBy step n d.view id h → Leads d awaits id h
by_step (Send k) d awaits n id h ready waits w still asks = answered_so (awaited n k) d awaits n k id h ready waits refl w (λ e. still (ap (λ (x : Command). Send x) e)) asks
by_step AwaitTags d awaits n id h ready waits w still (tag, tags, is) = reports d awaits id h (tag ∷ tags) ready (subst (λ (a : Awaits). AwaitsReport a (tag ∷ tags)) (sym w) tt) is

none_at_last : (before : List Step) (step : Step) → before ++ step ∷ [] ≡ [] → ⊥
none_at_last [] step e = cc
none_at_last (b ∷ before) step e = cc

at_first : (limit : ℕ) (plan : Plan) (c : Course) (id : ℕ) (h : Heard) (s : Standing limit plan c) → s.order.first ≡ [] → Accepts h → Leads c.client c.awaits id h
at_first limit plan c id h s none accepts =
    elim (s.at) as (λ x. Leads c.client c.awaits id h) [
      | inl b ↦ joins c.client c.awaits id h b.fresh accepts
      | inr w ↦ absurd (none_at_last w.last.before w.last.step (sym w.last.parts ∙ none))
    ]

at_last : (limit : ℕ) (plan : Plan) (c : Course) (id : ℕ) (h : Heard) (s : Standing limit plan c) (before : List Step) (step : Step) → c.left ≢ [] → s.order.first ≡ before ++ step ∷ []
    → IsAskedBy step (length (commands_in before) + 1) c.client.view id h → Leads c.client c.awaits id h
at_last limit plan c id h s before step left done a =
    elim (s.at) as (λ x. Leads c.client c.awaits id h) [
      | inl b ↦ absurd (none_at_last before step (sym done ∙ b.none))
      | inr w ↦
          let one : step ≡ w.last.step = same_last before w.last.before step w.last.step (sym done ∙ w.last.parts) in
          let those : before ≡ w.last.before = same_before before w.last.before step w.last.step (sym done ∙ w.last.parts) in
          let number : ℕ = length (commands_in w.last.before) + 1 in
          let asks : IsAskedBy w.last.step number c.client.view id h =
          subst (λ (x : Step). IsAskedBy x number c.client.view id h) one (subst (λ (x : List Step). IsAskedBy step (length (commands_in x) + 1) c.client.view id h) those a) in
          elim (w.pending) as (λ x. Leads c.client c.awaits id h) [
            | inr p ↦ absurd (left p.1)
            | inl p ↦
                let still : w.last.step ≢ Send Close = λ e. left (last_closes plan w.last.before c.left (s.order.parts ∙ ap (λ (ks : List Step). ks ++ c.left) (w.last.parts ∙ ap (λ (x : Step). w.last.before ++ x ∷ []) e))) in
                by_step w.last.step c.client c.awaits number id h w.ready p w.last.awaits still asks
          ]
    ]

leads_if_awaited : (limit : ℕ) (plan : Plan) (c : Course) (id : ℕ) (h : Heard) (s : Standing limit plan c) → c.left ≢ [] → IsAwaitedAfter s.order.first c.client.view id h → Leads c.client c.awaits id h
leads_if_awaited limit plan c id h s left (inl first) = at_first limit plan c id h s first.0 first.1
leads_if_awaited limit plan c id h s left (inr last) = at_last limit plan c id h s last.before last.step left last.parts last.is_asked

-- ---- the step is taken

-- where less is left, a step was taken
not_same : (c d : Course) (step : Step) (later : List Step) → c.left ≡ step ∷ later → d.left ≡ later → d.left ≡ c.left → ⊥
not_same c d step later l m same =
    let more : length c.left ≡ length later + 1 = ap (λ (ks : List Step). length ks) l ∙ omega arith in
    let less : length d.left ≡ length later = ap (λ (ks : List Step). length ks) m in
    let equal : length d.left ≡ length c.left = ap (λ (ks : List Step). length ks) same in
    absurd (omega arith)

takes_next_step : (left : List Step) (limit : ℕ) (plan : Plan) (c : Course) (m : MessageTree) (s : Standing limit plan c) → 4096 ≤ limit → IsValid plan → c.phase ≡ Open → c.left ≡ left → c.left ≢ []
    → IsAwaitedAfter s.order.first c.client.view m.id (heard_of m) → TakesStep plan c (after_item (Msg m) c) (Msg m)
takes_next_step [] limit plan c m s least fits opened l some due = absurd (some l)
takes_next_step (step ∷ later) limit plan c m s least fits opened l some due =
    let leads = leads_if_awaited limit plan c m.id (heard_of m) s some due in
    let d : Course = after_item (Msg m) c in
    let so : Led leads.0.client step later d = led limit plan c m leads.0 step later least fits s opened (record { takes = leads.1; leads = leads.2 }) l in
    let steps : Steps limit plan c d (Msg m) = item_so limit plan c (Msg m) s opened in
    elim (steps.takes) as (λ x. TakesStep plan c d (Msg m)) [
      | inl none ↦ absurd (not_same c d step later l so.left none.left)
      | inr one ↦ one
    ]

pub takes_where_awaited : (limit : ℕ) (plan : Plan) → 4096 ≤ limit → IsValid plan → TakesWhereAwaited limit plan
takes_where_awaited limit plan least fits items m done opened some parts due =
    let c : Course = course_of limit plan items in
    let s : Standing limit plan c = subst (λ (p : Phase). StandsIn p limit plan c) opened (stands_so limit plan items) in
    let same : done ≡ s.order.first = append_cancel_right done s.order.first c.left (sym parts ∙ s.order.parts) in
    let one : TakesStep plan c (after_item (Msg m) c) (Msg m) =
    takes_next_step c.left limit plan c m s least fits opened refl some (subst (λ (x : List Step). IsAwaitedAfter x c.client.view m.id (heard_of m)) same due) in
    let step : after_item (Msg m) c ≡ course_of limit plan (items ++ Msg m ∷ []) =
    ap (λ (p : Phase). goes p (Msg m) c) (sym opened) ∙ sym (follow-append items (Msg m ∷ []) (new_course limit plan)) in
    subst (λ (d : Course). TakesStep plan c d (Msg m)) step one
