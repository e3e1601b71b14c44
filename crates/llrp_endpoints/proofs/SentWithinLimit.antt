-- What a client that follows a plan sends is lawful, and within its own limit.
use Rattle.std.proofs.Common.{◌≡◌, ℕ, ◌^◌, ◌<◌, ◌≤◌, inl, inr, true, false, cond, List, [], ◌∷◌, ◌++◌, map, get_or, Result, Ok, Err, refl, sym, ap, subst, ◌∙◌, arith}
use Rattle.std.specs.Prelude.{◌==◌, IfOk}
use Rattle.std.specs.List.{AllByRecursion, AllZip}
use Rattle.llrp_schema.specs.declared.kinds.ParamKind.TheVariants.{RoSpec}
use Rattle.llrp_schema.specs.Schema.{fields_of, rule_of, param_rule}
use Rattle.llrp_tree.specs.Tree.{Tree}
use Rattle.llrp_tree.specs.declared.TheConstants.{MAX_LIMIT}
use Rattle.llrp_stream.specs.declared.item.Item.{Item}
use Rattle.llrp_stream.specs.declared.item.Item.TheVariants.{Msg, Bad}
use Rattle.llrp_stream.specs.Items.{IsItemIn}
use Rattle.llrp_schema.specs.declared.kinds.KindSet.{KindSet}
use Rattle.llrp_session.specs.Refusal.{Refusal}
use Rattle.llrp_session.specs.declared.types.Command.{Command}
use Rattle.llrp_session.specs.declared.types.Taken.{Taken}
use Rattle.llrp_session.specs.declared.types.Taken.TheVariants.{Connected, Refused, Reply, Tags, Table, Differs, Event, Note, Kept, Closed as ConnectionEnded}
use Rattle.llrp_session.specs.ClientMachine.{Sending, Taking, command, take}
use Rattle.llrp_session.specs.ClientMessages.{client_message}
use Rattle.llrp_session.specs.Reading.{heard_of}
use Rattle.llrp_session.specs.Calls.LawfulWords.{IsLawfulClientMessage}
use Rattle.llrp_session.specs.MessageWorld.{IsGivenCommand}
use Rattle.llrp_session.specs.Calls.ReadWords.{greatest}
use Rattle.llrp_session.proofs.ReadFields.{field_within}
use Rattle.llrp_session.specs.Calls.LawfulStates.{AreLawfulClientMessages}
use Rattle.llrp_session.specs.Calls.MessageWorld.{AreSendable}
use Rattle.llrp_session.proofs.LawfulClients.{command_is_lawful, answer_is_lawful}
use Rattle.llrp_session.proofs.MessageWorlds.{Says, says_taken}
use Rattle.llrp_listing.specs.declared.outcome.ToolErr.TheVariants.{Peer, Strange}
use Rattle.llrp_endpoints.specs.declared.course.Awaits.{Awaits}
use Rattle.llrp_endpoints.specs.declared.course.Awaits.TheVariants.{Answer, TaggedReport, Report, End}
use Rattle.llrp_endpoints.specs.declared.course.Phase.{Phase}
use Rattle.llrp_endpoints.specs.declared.course.Phase.TheVariants.{Open, Closed, Failed}
use Rattle.llrp_endpoints.specs.declared.course.Step.{Step}
use Rattle.llrp_endpoints.specs.declared.course.Step.TheVariants.{Send, AwaitTags}
use Rattle.llrp_endpoints.proofs.HeardLemmas.{HasId}
use Rattle.llrp_endpoints.proofs.OddLemmas.{taken_ids}
use Rattle.llrp_endpoints.specs.Plan.{hearing_of, Plan, rospec_id, steps}
use Rattle.llrp_endpoints.specs.Calls.PlanLaws.{IsValid}
use Rattle.llrp_endpoints.specs.Gathering.{Course, new_course, ends, sends_by, takes_step, steps_on, send_next, reported, ended, after, after_taking, after_item, goes, follow, Gathers, taken}
use Rattle.llrp_endpoints.proofs.PlanCommands.{OfEach, each_step}
use Rattle.llrp_endpoints.proofs.PlanSteps.{as_sent}
use Rattle.llrp_endpoints.proofs.PlanFollowing.{bad_either}
use Rattle.llrp_session.proofs.SendableWorlds.{up_sendable as sendable, client_messages-append as sent-append}

-- the command of a step may be given
abbrev IsGivenStep : Step → Type 0
IsGivenStep (Send k) = IsGivenCommand k
IsGivenStep AwaitTags = Unit {0}

-- the client has the limit, the commands that are left are ones that may be given, and what was sent is lawful
record Fits (limit : ℕ) (c : Course) : Type 0 where
  client : c.client.limit ≡ limit
  left : AllByRecursion IsGivenStep c.left
  sent : AreLawfulClientMessages limit c.sent

end_fits : (limit : ℕ) (phase : Phase) (c : Course) → Fits limit c → Fits limit (ends phase c)
end_fits limit phase c h = record { client = h.client; left = h.left; sent = h.sent }

-- ---- commands

command_fits : (limit : ℕ) (c : Course) (k : Command) (left : List Step) (r : Result Sending Refusal) → Fits limit c → IsGivenCommand k → AllByRecursion IsGivenStep left → command c.client k ≡ r → Fits limit (sends_by r k left c)
command_fits limit c k left (Err refusal) h g gs e = end_fits limit (Failed Strange) c h
command_fits limit c k left (Ok s) h g gs e =
    let own : IsLawfulClientMessage c.client.limit s.message = subst (λ (r : Result Sending Refusal). IfOk r (λ x. IsLawfulClientMessage c.client.limit x.message)) e (command_is_lawful c.client k g) in
    let lawful : IsLawfulClientMessage limit s.message = subst (λ (n : ℕ). IsLawfulClientMessage n s.message) h.client own in
    let same : s.client.limit ≡ c.client.limit = ap (λ (x : Sending). x.client.limit) (as_sent c.client k s e) in
    record { client = same ∙ h.client; left = gs; sent = sent-append limit c.sent (s.message ∷ []) h.sent (lawful, tt) }

step_fits : (step : Step) (limit : ℕ) (c : Course) (left : List Step) → Fits limit c → IsGivenStep step → AllByRecursion IsGivenStep left → Fits limit (takes_step step left c)
step_fits (Send k) limit c left h g gs = command_fits limit c k left (command c.client k) h g gs refl
step_fits AwaitTags limit c left h g gs = record { client = h.client; left = gs; sent = h.sent }

next_fits : (limit : ℕ) (c : Course) (ss : List Step) → Fits limit c → AllByRecursion IsGivenStep ss → Fits limit (steps_on ss c)
next_fits limit c [] h g = h
next_fits limit c (step ∷ left) h g = step_fits step limit c left h g.0 g.1

goes_on_fits : (limit : ℕ) (c : Course) → Fits limit c → Fits limit (send_next c)
goes_on_fits limit c h = next_fits limit c c.left h h.left

-- ---- messages

reported_fits : (limit : ℕ) (awaits : Awaits) (tags : List Tree) (c : Course) → Fits limit c → Fits limit (reported awaits tags c)
reported_fits limit Report tags c h = goes_on_fits limit c h
reported_fits limit TaggedReport [] c h = h
reported_fits limit TaggedReport (tag ∷ tags) c h = goes_on_fits limit c h
reported_fits limit Answer tags c h = h
reported_fits limit End tags c h = h

after_fits : (limit : ℕ) (taken : Taken) (c : Course) → Fits limit c → Fits limit (after taken c)
after_fits limit Connected c h = goes_on_fits limit c h
after_fits limit (Refused status) c h = end_fits limit (Failed (Peer status)) c h
after_fits limit (Reply status) c h = elim (status == 0) as (λ b. Fits limit (cond b (send_next c) (ends (Failed (Peer status)) c))) [ true ↦ goes_on_fits limit c h | false ↦ end_fits limit (Failed (Peer status)) c h ]
after_fits limit (Tags tags) c h = reported_fits limit c.awaits tags (record c { reports = c.reports ++ tags ∷ [] }) (record { client = h.client; left = h.left; sent = h.sent })
after_fits limit (Table rospecs) c h = goes_on_fits limit c h
after_fits limit (Differs rospecs) c h = end_fits limit (Failed Strange) c h
after_fits limit (Event id state) c h = h
after_fits limit Note c h = h
after_fits limit Kept c h = h
after_fits limit ConnectionEnded c h = end_fits limit (ended c.awaits) c h

taking_fits : (limit : ℕ) (c : Course) (r : Result Taking Refusal) → Fits limit c → IfOk r (λ t. AreLawfulClientMessages c.client.limit t.sent) → Says c.client r → Fits limit (after_taking r c)
taking_fits limit c (Err refusal) h l s = end_fits limit (Failed Strange) c h
taking_fits limit c (Ok t) h l s =
    let lawful : AreLawfulClientMessages limit t.sent = subst (λ (n : ℕ). AreLawfulClientMessages n t.sent) h.client l in
    after_fits limit t.taken (record c { client = t.client; sent = c.sent ++ t.sent }) (record { client = s.1 ∙ h.client; left = h.left; sent = sent-append limit c.sent t.sent h.sent lawful })

item_fits : (limit : ℕ) (item : Item) (c : Course) → HasId item → Fits limit c → Fits limit (after_item item c)
item_fits limit (Msg m) c fits h = taking_fits limit c (take c.client m.id (heard_of m)) h (answer_is_lawful c.client m.id (heard_of m) fits) (says_taken c.client m.id (heard_of m))
item_fits limit (Bad id fault) c fits h = elim (bad_either fault.reason c) [
  | inl same ↦ subst (Fits limit) (sym same) h
  | inr strange ↦ subst (Fits limit) (sym strange) (end_fits limit (Failed Strange) c h)
]

goes_fits : (p : Phase) (limit : ℕ) (item : Item) (c : Course) → HasId item → Fits limit c → Fits limit (goes p item c)
goes_fits Open limit item c fits h = item_fits limit item c fits h
goes_fits Closed limit item c fits h = h
goes_fits (Failed error) limit item c fits h = h

follow_fits : (limit : ℕ) (items : List Item) (c : Course) → AllByRecursion HasId items → Fits limit c → Fits limit (follow items c)
follow_fits limit [] c fits h = h
follow_fits limit (item ∷ items) c fits h = follow_fits limit items (goes c.phase item c) fits.1 (goes_fits c.phase limit item c fits.0 h)

have_ids : (p : KindSet) (limit : ℕ) (frames : List (List ℕ)) (items : List Item) → AllZip (IsItemIn p limit) frames items → AllByRecursion HasId items
have_ids p limit [] [] are = tt
have_ids p limit [] (i ∷ items) are = absurd are
have_ids p limit (f ∷ frames) [] are = absurd are
have_ids p limit (f ∷ frames) (Msg m ∷ items) are = (are.0.frame.lawful.id, have_ids p limit frames items are.1)
have_ids p limit (f ∷ frames) (Bad id fault ∷ items) are = (tt, have_ids p limit frames items are.1)

-- ---- the plan

id_fits : (plan : Plan) → IsValid plan → rospec_id plan < 2 ^ 32
unfolding fields_of rule_of param_rule
id_fits plan valid = let le : get_or plan.rospec.fields 0 0 ≤ greatest RoSpec 0 = field_within RoSpec plan.rospec 0 valid.kind valid.lawful in omega (arith, le)

plan_given : (plan : Plan) → IsValid plan → AllByRecursion IsGivenStep (steps plan)
plan_given plan valid =
    let id : rospec_id plan < 2 ^ 32 = id_fits plan valid in
    let each : OfEach IsGivenStep plan = record {
      cleans = omega arith;
      keeps = valid.keepalive;
      adds = (valid.kind, valid.lawful);
      enables = id;
      starts = id;
      awaits = tt;
      polls = tt;
      stops = id;
      disables = id;
      checks = tt;
      deletes = id;
    } in
    each_step IsGivenStep plan each tt

pub sends_within_limit : (limit : ℕ) (plan : Plan) (bytes rest : List ℕ) (course : Course) → 4096 ≤ limit → limit ≤ MAX_LIMIT → IsValid plan
    → Gathers limit plan bytes rest course → AreSendable limit (map client_message course.sent)
sends_within_limit limit plan bytes rest course least most valid g =
    let begins : Fits limit (new_course limit plan) = record { client = refl; left = plan_given plan valid; sent = tt } in
    let end = follow_fits limit (taken (hearing_of plan) g.items (new_course limit plan)) (new_course limit plan) (taken_ids (hearing_of plan) g.items (new_course limit plan) (have_ids plan.set limit g.are.frames g.items g.are.are)) begins in
    sendable limit course.sent least most (subst (λ (c : Course). AreLawfulClientMessages limit c.sent) (sym g.course_is) end.sent)
