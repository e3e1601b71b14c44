-- A message that leads on: the plan's next command is sent.
use Rattle.std.proofs.Common.{◌≡◌, ℕ, ◌≤◌, List, [], ◌∷◌, ◌++◌, refl, sym, subst}
use Rattle.std.specs.Prelude.{None, Result, Ok}
use Rattle.llrp_tree.specs.Tree.{Tree, MessageTree}
use Rattle.llrp_stream.specs.declared.item.Item.TheVariants.{Msg}
use Rattle.llrp_session.specs.declared.types.Operation.{Operation}
use Rattle.llrp_session.specs.declared.types.Operation.TheVariants.{Adding, Deleting, Starting, Stopping, Enabling, Disabling, Configuring, Closing, Listing}
use Rattle.llrp_session.specs.declared.types.Pending.{Pending}
use Rattle.llrp_session.specs.declared.types.Taken.{Taken}
use Rattle.llrp_session.specs.declared.types.Taken.TheVariants.{Connected, Refused, Reply, Tags, Table, Differs, Event, Note, Kept, Closed as ConnectionEnded}
use Rattle.llrp_session.specs.Refusal.{Refusal}
use Rattle.llrp_session.specs.ClientMachine.{Client, Sending, Taking, take, take_response, takes, command, sending, granted}
use Rattle.llrp_session.specs.Reading.{heard_of}
use Rattle.llrp_session.proofs.Following.{LeavesOpen}
use Rattle.llrp_endpoints.specs.declared.course.Awaits.{Awaits}
use Rattle.llrp_endpoints.specs.declared.course.Awaits.TheVariants.{Answer, TaggedReport, Report, End}
use Rattle.llrp_endpoints.specs.declared.course.Phase.TheVariants.{Open}
use Rattle.llrp_endpoints.specs.declared.course.Step.{Step}
use Rattle.llrp_endpoints.specs.declared.course.Step.TheVariants.{Send, AwaitTags}
use Rattle.llrp_endpoints.specs.Plan.{Plan}
use Rattle.llrp_endpoints.specs.Gathering.{Course, sends_by, takes_step, steps_on, send_next, reported, after, after_taking, after_item}
use Rattle.llrp_endpoints.specs.Private.GatheringStands.{awaited_after}
use Rattle.llrp_endpoints.specs.Calls.PlanLaws.{IsValid, AwaitsReport, LeadsOn}
use Rattle.llrp_endpoints.proofs.PlanClients.{Takes, TakesOr}
use Rattle.llrp_endpoints.proofs.PlanSteps.{Standing}
use Rattle.llrp_endpoints.proofs.PlanFollowing.{takes_so}
use Rattle.llrp_endpoints.proofs.PlanRefusals.{takes_next}

-- ---- a message that leads on

-- the client with which it goes on from a step
abbrev pub client_after : Step → Client → Client
client_after (Send k) client = (sending client k).client
client_after AwaitTags client = client

-- the client takes the step, whatever it is
abbrev pub TakesIt : Step → Client → Type 0
TakesIt (Send k) client = command client k ≡ Ok (sending client k)
TakesIt AwaitTags client = Unit {0}

-- the next step was taken
pub record Led (client : Client) (step : Step) (later : List Step) (d : Course) : Type 0 where
  pub open_is : d.phase ≡ Open
  pub left : d.left ≡ later
  pub awaits : d.awaits ≡ awaited_after step
  pub client_is : d.client ≡ client_after step client

led_by : (step : Step) (e : Course) (later : List Step) → e.phase ≡ Open → TakesIt step e.client → Led e.client step later (takes_step step later e)
led_by (Send k) e later opened takes =
    subst (λ (r : Result Sending Refusal). Led e.client (Send k) later (sends_by r k later e)) (sym takes) (record { open_is = opened; left = refl; awaits = refl; client_is = refl })
led_by AwaitTags e later opened takes = record { open_is = opened; left = refl; awaits = refl; client_is = refl }

led_on : (e : Course) (step : Step) (later : List Step) → e.phase ≡ Open → e.left ≡ step ∷ later → TakesIt step e.client → Led e.client step later (send_next e)
led_on e step later opened next takes = subst (λ (ks : List Step). Led e.client step later (steps_on ks e)) (sym next) (led_by step e later opened takes)

led_by_report : (a : Awaits) (tags : List Tree) (e : Course) (step : Step) (later : List Step) → AwaitsReport a tags → e.phase ≡ Open → e.left ≡ step ∷ later → TakesIt step e.client → Led e.client step later (reported a tags e)
led_by_report Report tags e step later w opened next takes = led_on e step later opened next takes
led_by_report TaggedReport [] e step later w opened next takes = absurd w
led_by_report TaggedReport (tag ∷ tags) e step later w opened next takes = led_on e step later opened next takes
led_by_report Answer tags e step later w opened next takes = absurd w
led_by_report End tags e step later w opened next takes = absurd w

led_after : (taken : Taken) (e : Course) (step : Step) (later : List Step) → LeadsOn taken e.awaits → e.phase ≡ Open → e.left ≡ step ∷ later → TakesIt step e.client → Led e.client step later (after taken e)
led_after Connected e step later leads opened next takes = led_on e step later opened next takes
led_after (Reply status) e step later leads opened next takes = subst (λ (n : ℕ). Led e.client step later (after (Reply n) e)) (sym leads) (led_on e step later opened next takes)
led_after (Tags tags) e step later leads opened next takes = led_by_report e.awaits tags (record e { reports = e.reports ++ tags ∷ [] }) step later leads opened next takes
led_after (Table rospecs) e step later leads opened next takes = led_on e step later opened next takes
led_after (Differs rospecs) e step later leads opened next takes = absurd leads
led_after (Refused status) e step later leads opened next takes = absurd leads
led_after (Event id state) e step later leads opened next takes = absurd leads
led_after Note e step later leads opened next takes = absurd leads
led_after Kept e step later leads opened next takes = absurd leads
led_after ConnectionEnded e step later leads opened next takes = absurd leads

-- the client takes the message so
pub record Meets (client : Client) (awaits : Awaits) (m : MessageTree) (t : Taking) : Type 0 where
  pub takes : take client m.id (heard_of m) ≡ Ok t
  pub leads : LeadsOn t.taken awaits

takes_it : (step : Step) (limit : ℕ) (plan : Plan) (c : Course) (m : MessageTree) (t : Taking) (later : List Step) → 4096 ≤ limit → IsValid plan → Standing limit plan c
    → Takes c.client m.id (heard_of m) t → LeadsOn t.taken c.awaits → c.left ≡ step ∷ later → TakesIt step t.client
takes_it (Send k) limit plan c m t later least fits s so leads next = takes_next limit plan c m.id (heard_of m) t k later least fits s so leads next
takes_it AwaitTags limit plan c m t later least fits s so leads next = tt

pub led : (limit : ℕ) (plan : Plan) (c : Course) (m : MessageTree) (t : Taking) (step : Step) (later : List Step) → 4096 ≤ limit → IsValid plan → Standing limit plan c → c.phase ≡ Open
    → Meets c.client c.awaits m t → c.left ≡ step ∷ later → Led t.client step later (after_item (Msg m) c)
led limit plan c m t step later least fits s opened meets next =
    let e : Course = record c { client = t.client; sent = c.sent ++ t.sent } in
    let so : Takes c.client m.id (heard_of m) t = subst (TakesOr c.client m.id (heard_of m)) meets.takes (takes_so limit plan c m.id (heard_of m) s) in
    let takes = takes_it step limit plan c m t later least fits s so meets.leads next in
    subst (λ (r : Result Taking Refusal). Led t.client step later (after_taking r c)) (sym meets.takes) (led_after t.taken e step later meets.leads opened next takes)

-- ---- a request that is granted

pub is_granted : (operation : Operation) (c : Client) (p : Pending) (ts : List Tree) → LeavesOpen operation → take_response operation c p 0 ts ≡ takes (Reply 0) (record c { pending = None; view = granted p.operation p.rospec c.view })
is_granted Adding c p ts still = refl
is_granted Deleting c p ts still = refl
is_granted Starting c p ts still = refl
is_granted Stopping c p ts still = refl
is_granted Enabling c p ts still = refl
is_granted Disabling c p ts still = refl
is_granted Configuring c p ts still = refl
is_granted Closing c p ts still = absurd still
is_granted Listing c p ts still = absurd still
