-- The client of a plan takes each of its commands.
use Rattle.std.proofs.Common.{◌≡◌, ℕ, ◌+◌, ◌≤◌, ◌==◌, Bool, true, false, cond, List, [], ◌∷◌, ◌++◌, length, refl, sym, ap, subst, ◌∙◌, inl, inr, arith}
use Rattle.std.specs.Prelude.{nat_lt, Option, None, Some, is_some, Result, Ok, Err}
use Rattle.std.specs.List.{AllByRecursion}
use Rattle.std.proofs.lemmas.Bool.Decides.{nat_tests}
use Rattle.std.proofs.lemmas.List.{length-append}
use Rattle.llrp_tree.specs.Tree.{Tree}
use Rattle.llrp_tree.specs.Lawful.{tree_octets}
use Rattle.llrp_tree.specs.declared.fault.Reason.{Reason}
use Rattle.llrp_stream.specs.declared.item.Item.{Item}
use Rattle.llrp_stream.specs.declared.item.Item.TheVariants.{Msg, Bad}
use Rattle.llrp_session.specs.declared.types.ClientPhase.{ClientPhase}
use Rattle.llrp_session.specs.declared.types.ClientPhase.TheVariants.{Fresh, Ready}
use Rattle.llrp_session.specs.declared.types.Command.{Command}
use Rattle.llrp_session.specs.declared.types.Command.TheVariants.{Add, Delete, Start, Stop, Enable, Disable, GetRospecs, SetKeepalive, GetReport, Close}
use Rattle.llrp_session.specs.declared.types.Pending.{Pending}
use Rattle.llrp_session.specs.declared.types.Taken.{Taken}
use Rattle.llrp_session.specs.declared.types.Taken.TheVariants.{Connected, Refused, Reply, Tags, Table, Differs, Event, Note, Kept, Closed as ConnectionEnded}
use Rattle.llrp_session.specs.Refusal.{Refusal, Busy, OverLimit, IdsSpent}
use Rattle.llrp_session.specs.RoSpec.{rospec_of}
use Rattle.llrp_session.specs.Contents.{Heard}
use Rattle.llrp_session.specs.ClientMachine.{Client, Sending, Taking, take, command, sending, sent_unless, refused_in, is_over_limit, are_spent}
use Rattle.llrp_session.specs.Reading.{heard_of}
use Rattle.llrp_listing.specs.declared.outcome.ToolErr.TheVariants.{Peer, Strange}
use Rattle.llrp_endpoints.specs.declared.course.Awaits.{Awaits}
use Rattle.llrp_endpoints.specs.declared.course.Awaits.TheVariants.{Answer, TaggedReport, Report, End}
use Rattle.llrp_endpoints.specs.declared.course.Phase.{Phase}
use Rattle.llrp_endpoints.specs.declared.course.Phase.TheVariants.{Open, Failed}
use Rattle.llrp_endpoints.specs.declared.course.Step.{Step}
use Rattle.llrp_endpoints.specs.declared.course.Step.TheVariants.{Send, AwaitTags}
use Rattle.llrp_endpoints.specs.Plan.{Plan, steps}
use Rattle.llrp_endpoints.specs.Calls.Plans.{commands, commands_in}
use Rattle.llrp_endpoints.specs.Gathering.{Course, ends, ended, sends_by, takes_step, steps_on, send_next, reported, after, after_taking, after_bad, after_item}
use Rattle.llrp_endpoints.specs.Private.GatheringStands.{awaited_after}
use Rattle.llrp_endpoints.specs.Calls.PlanLaws.{course_of, IsValid, AwaitsReport, LeadsOn, TakesEachCommand, IsOtherTable, IsTakenStrangely, IsStrangeTo}
use Rattle.llrp_endpoints.proofs.PlanClients.{TakesFor, Takes, TakesOr}
use Rattle.llrp_endpoints.proofs.PlanCommands.{OfEach, each_step, length-commands, commands_in-append}
use Rattle.llrp_endpoints.proofs.PlanSteps.{Standing, StandsIn, pending_after}
use Rattle.llrp_endpoints.proofs.PlanFollowing.{takes_so, stands_so}

-- ---- each command is within the limit

abbrev IsWithin : ℕ → Command → Type 0
IsWithin limit k = is_over_limit limit k ≡ false

-- the command of a step, if it has one
abbrev StepWithin : ℕ → Step → Type 0
StepWithin limit (Send k) = IsWithin limit k
StepWithin limit AwaitTags = Unit {0}

not_above : (a b : ℕ) → b ≤ a → nat_lt a b ≡ false
not_above a b h = grind (arith, nat_tests)

add_within : (limit : ℕ) (plan : Plan) → 4096 ≤ limit → IsValid plan → IsWithin limit (Add plan.rospec)
unfolding rospec_of
add_within limit plan h valid = let o = valid.short in not_above limit (10 + tree_octets plan.rospec) (omega arith)

steps_within : (limit : ℕ) (plan : Plan) → 4096 ≤ limit → IsValid plan → AllByRecursion (StepWithin limit) (steps plan)
steps_within limit plan h valid =
    let each : OfEach (StepWithin limit) plan = record {
      cleans = refl;
      keeps = refl;
      adds = add_within limit plan h valid;
      enables = refl;
      starts = refl;
      awaits = tt;
      polls = refl;
      stops = refl;
      disables = refl;
      checks = refl;
      deletes = refl;
    } in
    each_step (StepWithin limit) plan each refl

among : (limit : ℕ) (first : List Step) (step : Step) (later : List Step) → AllByRecursion (StepWithin limit) (first ++ step ∷ later) → StepWithin limit step
among limit [] step later all = all.0
among limit (x ∷ first) step later all = among limit first step later all.1

-- ---- a client that takes a command

ready_takes : (d : Client) (k : Command) → d.phase ≡ Ready → d.pending ≡ None → IsWithin d.limit k → are_spent d.next_id ≡ false → command d k ≡ Ok (sending d k)
unfolding command
ready_takes d k ready none within unspent =
    ap (λ (p : ClientPhase). sent_unless (refused_in p d k) d k) ready
    ∙ ap (λ (o : Option Pending). sent_unless (cond (is_some o) (Some Busy) (cond (is_over_limit d.limit k) (Some OverLimit) (cond (are_spent d.next_id) (Some IdsSpent) None))) d k) none
    ∙ ap (λ (b : Bool). sent_unless (cond b (Some OverLimit) (cond (are_spent d.next_id) (Some IdsSpent) None)) d k) within
    ∙ ap (λ (b : Bool). sent_unless (cond b (Some IdsSpent) None) d k) unspent

-- it is ready, and nothing is pending
record IsFree (d : Client) : Type 0 where
  ready : d.phase ≡ Ready
  pending : d.pending ≡ None

none_waits : (step : Step) (n : ℕ) (tags : List Tree) → AwaitsReport (awaited_after step) tags → pending_after step n ≡ None
none_waits (Send GetReport) n tags w = refl
none_waits AwaitTags n tags w = refl
none_waits (Send (Add spec)) n tags w = absurd w
none_waits (Send (Delete id)) n tags w = absurd w
none_waits (Send (Start id)) n tags w = absurd w
none_waits (Send (Stop id)) n tags w = absurd w
none_waits (Send (Enable id)) n tags w = absurd w
none_waits (Send (Disable id)) n tags w = absurd w
none_waits (Send GetRospecs) n tags w = absurd w
none_waits (Send (SetKeepalive ms)) n tags w = absurd w
none_waits (Send Close) n tags w = absurd w

waits_not : (limit : ℕ) (plan : Plan) (c : Course) (tags : List Tree) → Standing limit plan c → c.client.phase ≡ Ready → AwaitsReport c.awaits tags → c.client.pending ≡ None
waits_not limit plan c tags s ready w =
    elim (s.at) as (λ x. c.client.pending ≡ None) [
      | inl b ↦ b.pending
      | inr v ↦ elim (v.pending) as (λ x. c.client.pending ≡ None) [
        | inl p ↦ p ∙ none_waits v.last.step (length (commands_in v.last.before) + 1) tags (subst (λ (a : Awaits). AwaitsReport a tags) v.last.awaits w)
        | inr p ↦ p.0
      ]
    ]

fresh_waits_not : (limit : ℕ) (plan : Plan) (c : Course) → Standing limit plan c → c.client.phase ≡ Fresh → c.client.pending ≡ None
fresh_waits_not limit plan c s fresh =
    elim (s.at) as (λ x. c.client.pending ≡ None) [
      | inl b ↦ b.pending
      | inr v ↦ let x = v.ready in let no : Fresh ≡ Ready = cc in absurd cc
    ]

is_free : (taken : Taken) (limit : ℕ) (plan : Plan) (c : Course) (d : Client) (id : ℕ) (h : Heard) → Standing limit plan c → TakesFor taken c.client d id h → LeadsOn taken c.awaits → IsFree d
is_free Connected limit plan c d id h s t l = record { ready = t.is; pending = t.pending ∙ fresh_waits_not limit plan c s t.was }
is_free (Reply status) limit plan c d id h s t l = record { ready = t.is; pending = t.pending }
is_free (Tags tags) limit plan c d id h s t l = record {
  ready = ap (λ (x : Client). x.phase) t.same ∙ t.was;
  pending = ap (λ (x : Client). x.pending) t.same ∙ waits_not limit plan c tags s t.was l;
}
is_free (Table rospecs) limit plan c d id h s t l = record { ready = t.is; pending = t.pending }
is_free (Differs rospecs) limit plan c d id h s t l = absurd l
is_free (Refused status) limit plan c d id h s t l = absurd l
is_free (Event rospec state) limit plan c d id h s t l = absurd l
is_free Note limit plan c d id h s t l = absurd l
is_free Kept limit plan c d id h s t l = absurd l
is_free ConnectionEnded limit plan c d id h s t l = absurd l

-- the ids of a plan are not spent
unspent : (limit : ℕ) (plan : Plan) (c : Course) (s : Standing limit plan c) → IsValid plan → are_spent c.client.next_id ≡ false
unspent limit plan c s valid =
    let all : length (commands plan) ≡ length (commands_in s.order.first) + length (commands_in c.left) =
    ap (λ (x : List Step). length (commands_in x)) s.order.parts ∙ ap (λ (ks : List Command). length ks) (commands_in-append s.order.first c.left) ∙ length-append (commands_in s.order.first) (commands_in c.left) in
    let id = s.next_id in
    let few = valid.polls in
    not_above 4294967295 c.client.next_id (omega (arith, length-commands plan))

pub takes_next : (limit : ℕ) (plan : Plan) (c : Course) (id : ℕ) (h : Heard) (t : Taking) (k : Command) (later : List Step) → 4096 ≤ limit → IsValid plan → Standing limit plan c
    → Takes c.client id h t → LeadsOn t.taken c.awaits → c.left ≡ Send k ∷ later → command t.client k ≡ Ok (sending t.client k)
takes_next limit plan c id h t k later least fits s takes leads next =
    let free = is_free t.taken limit plan c t.client id h s takes.by leads in
    let all : AllByRecursion (StepWithin limit) (s.order.first ++ Send k ∷ later) = subst (AllByRecursion (StepWithin limit)) (s.order.parts ∙ ap (λ (ks : List Step). s.order.first ++ ks) next) (steps_within limit plan least fits) in
    let within : IsWithin t.client.limit k = subst (λ (n : ℕ). IsWithin n k) (sym (takes.limit ∙ s.limit_is)) (among limit s.order.first (Send k) later all) in
    let ids : are_spent t.client.next_id ≡ false = ap are_spent takes.next_id ∙ unspent limit plan c s fits in
    ready_takes t.client k free.ready free.pending within ids

pub each_is_taken : (limit : ℕ) (plan : Plan) → 4096 ≤ limit → IsValid plan → TakesEachCommand limit plan
each_is_taken limit plan least fits items m taking k leads =
    let c : Course = course_of limit plan items in
    let s : Standing limit plan c = subst (λ (p : Phase). StandsIn p limit plan c) leads.open_is (stands_so limit plan items) in
    let takes : Takes c.client m.id (heard_of m) taking = subst (TakesOr c.client m.id (heard_of m)) leads.takes (takes_so limit plan c m.id (heard_of m) s) in
    takes_next limit plan c m.id (heard_of m) taking k leads.later least fits s takes leads.leads_on leads.next

-- ---- what ends as Strange

is_open : (p q : Phase) → p ≡ Open → p ≡ Failed Strange → ⊥
is_open p q a b = let no : Open ≡ Failed Strange = sym a ∙ b in cc

-- a course whose client takes what it sends
not_stepping : (step : Step) (later : List Step) (e : Course) → e.phase ≡ Open → ((k : Command) → step ≡ Send k → command e.client k ≡ Ok (sending e.client k)) → (takes_step step later e).phase ≡ Failed Strange → ⊥
not_stepping (Send k) later e opened takes z = is_open e.phase e.phase opened (subst (λ (r : Result Sending Refusal). (sends_by r k later e).phase ≡ Failed Strange) (takes k refl) z)
not_stepping AwaitTags later e opened takes z = is_open e.phase e.phase opened z

not_sending : (ss : List Step) (e : Course) → e.phase ≡ Open → ((k : Command) (later : List Step) → ss ≡ Send k ∷ later → command e.client k ≡ Ok (sending e.client k)) → (steps_on ss e).phase ≡ Failed Strange → ⊥
not_sending [] e opened takes z = is_open e.phase e.phase opened z
not_sending (step ∷ later) e opened takes z = not_stepping step later e opened (λ k is. takes k later (ap (λ (x : Step). x ∷ later) is)) z

TakesNext : Taken → Course → Type 0
TakesNext taken e = (k : Command) (later : List Step) → LeadsOn taken e.awaits → e.left ≡ Send k ∷ later → command e.client k ≡ Ok (sending e.client k)

not_replying : (status : ℕ) (e : Course) → e.phase ≡ Open → TakesNext (Reply status) e → (after (Reply status) e).phase ≡ Failed Strange → ⊥
unfolding TakesNext
not_replying status e opened takes =
    elim (status == 0) as (λ b. (status == 0) ≡ b → (cond b (send_next e) (ends (Failed (Peer status)) e)).phase ≡ Failed Strange → ⊥) [
      | true ↦ λ w z. let zero : status ≡ 0 = grind (arith, nat_tests) in not_sending e.left e opened (λ k later l. takes k later zero l) z
      | false ↦ λ w z. let no : Failed (Peer status) ≡ Failed Strange = z in cc
    ] refl

not_led : (a : Awaits) (tags : List Tree) (e d : Course) → AwaitsReport a tags → d.phase ≡ Open → e.awaits ≡ a → d.client ≡ e.client → d.left ≡ e.left → TakesNext (Tags tags) e → (send_next d).phase ≡ Failed Strange → ⊥
unfolding TakesNext
not_led a tags e d leads opened w same left takes z =
    not_sending d.left d opened
    (λ k later l. subst (λ (x : Client). command x k ≡ Ok (sending x k)) (sym same) (takes k later (subst (λ (x : Awaits). AwaitsReport x tags) (sym w) leads) (sym left ∙ l))) z

not_reporting : (a : Awaits) (tags : List Tree) (e d : Course) → d.phase ≡ Open → e.awaits ≡ a → d.client ≡ e.client → d.left ≡ e.left → TakesNext (Tags tags) e → (reported a tags d).phase ≡ Failed Strange → ⊥
not_reporting Answer tags e d opened w same left takes z = is_open d.phase d.phase opened z
not_reporting End tags e d opened w same left takes z = is_open d.phase d.phase opened z
not_reporting Report tags e d opened w same left takes z = not_led Report tags e d tt opened w same left takes z
not_reporting TaggedReport [] e d opened w same left takes z = is_open d.phase d.phase opened z
not_reporting TaggedReport (tag ∷ tags) e d opened w same left takes z = not_led TaggedReport (tag ∷ tags) e d tt opened w same left takes z

not_ending : (a : Awaits) → ended a ≡ Failed Strange → ⊥
not_ending Answer z = cc
not_ending TaggedReport z = cc
not_ending Report z = cc
not_ending End z = cc

not_taking : (taken : Taken) (e : Course) → e.phase ≡ Open → TakesNext taken e → (after taken e).phase ≡ Failed Strange → IsOtherTable taken
unfolding TakesNext
not_taking Connected e opened takes z = absurd (not_sending e.left e opened (λ k later l. takes k later tt l) z)
not_taking (Refused status) e opened takes z = let no : Failed (Peer status) ≡ Failed Strange = z in cc
not_taking (Reply status) e opened takes z = absurd (not_replying status e opened takes z)
not_taking (Tags tags) e opened takes z = absurd (not_reporting e.awaits tags e (record e { reports = e.reports ++ tags ∷ [] }) opened refl refl refl takes z)
not_taking (Table rospecs) e opened takes z = absurd (not_sending e.left e opened (λ k later l. takes k later tt l) z)
not_taking (Differs rospecs) e opened takes z = tt
not_taking (Event rospec state) e opened takes z = absurd (is_open e.phase e.phase opened z)
not_taking Note e opened takes z = absurd (is_open e.phase e.phase opened z)
not_taking Kept e opened takes z = absurd (is_open e.phase e.phase opened z)
not_taking ConnectionEnded e opened takes z = absurd (not_ending e.awaits z)

strange_message : (limit : ℕ) (plan : Plan) (c : Course) (id : ℕ) (h : Heard) (r : Result Taking Refusal) → 4096 ≤ limit → IsValid plan → Standing limit plan c → c.phase ≡ Open
    → TakesOr c.client id h r → (after_taking r c).phase ≡ Failed Strange → IsTakenStrangely r
unfolding TakesNext
strange_message limit plan c id h (Err refusal) least fits s opened t z = t
strange_message limit plan c id h (Ok t) least fits s opened k z =
    let e : Course = record c { client = t.client; sent = c.sent ++ t.sent } in
    not_taking t.taken e opened (λ k' later leads next. takes_next limit plan c id h t k' later least fits s k leads next) z

pub strange_item : (limit : ℕ) (plan : Plan) (c : Course) (item : Item) → 4096 ≤ limit → IsValid plan → Standing limit plan c → c.phase ≡ Open → (after_item item c).phase ≡ Failed Strange → IsStrangeTo c.client item
strange_item limit plan c (Msg m) least fits s opened z =
    strange_message limit plan c m.id (heard_of m) (take c.client m.id (heard_of m)) least fits s opened (takes_so limit plan c m.id (heard_of m) s) z
strange_item limit plan c (Bad id fault) least fits s opened z = (
  λ e. is_open c.phase c.phase opened (subst (λ (r : Reason). (after_bad r c).phase ≡ Failed Strange) e z),
  λ e. is_open c.phase c.phase opened (subst (λ (r : Reason). (after_bad r c).phase ≡ Failed Strange) e z),
)
