-- What an item makes of a course that follows a plan.
use Rattle.std.proofs.Common.{◌≡◌, ℕ, ◌+◌, ◌≤◌, Bool, true, cond, List, [], ◌∷◌, ◌++◌, length, refl, sym, ap, subst, ◌∙◌, append_assoc, inl, inr, arith}
use Rattle.std.specs.Prelude.{◌⊎◌, Option, None, Some, Result, Ok, Err}
use Rattle.std.specs.List.{filter}
use Rattle.std.proofs.lemmas.List.{append-nil, length-append}
use Rattle.std.proofs.lemmas.List.Elements.{filter-append}
use Rattle.llrp_tree.specs.Tree.{Tree}
use Rattle.llrp_session.specs.declared.types.ClientPhase.TheVariants.{Fresh, Ready}
use Rattle.llrp_session.specs.declared.types.Command.{Command}
use Rattle.llrp_session.specs.declared.types.Pending.{Pending}
use Rattle.llrp_session.specs.Refusal.{Refusal}
use Rattle.llrp_session.specs.Contents.{Asks, ClientMessage}
use Rattle.llrp_session.specs.ClientMachine.{Client, Sending, command, sending, sent_unless, refused_in, awaited}
use Rattle.llrp_listing.specs.declared.outcome.ToolErr.TheVariants.{Strange}
use Rattle.llrp_endpoints.specs.declared.course.Awaits.TheVariants.{Answer}
use Rattle.llrp_endpoints.specs.declared.course.Phase.{Phase}
use Rattle.llrp_endpoints.specs.declared.course.Phase.TheVariants.{Open, Closed, Failed}
use Rattle.llrp_endpoints.specs.declared.course.Step.{Step}
use Rattle.llrp_endpoints.specs.declared.course.Step.TheVariants.{Send, AwaitTags}
use Rattle.llrp_endpoints.specs.Plan.{Plan, steps}
use Rattle.llrp_endpoints.specs.Calls.Plans.{commands, commands_in}
use Rattle.llrp_endpoints.specs.Gathering.{Course, new_course, ends, sends_by, takes_step, steps_on, send_next}
use Rattle.llrp_endpoints.specs.Private.GatheringStands.{awaited_after}
use Rattle.llrp_endpoints.specs.Calls.PlanLaws.{is_command, asked, numbered, TakesInOrder, TakesNone, with_tags}
use Rattle.llrp_endpoints.proofs.PlanCommands.{reports_in, tagged_in, numbered-last, commands_in-append}

-- ---- an open course

-- nothing was sent yet
pub record Begins (c : Course) (first : List Step) : Type 0 where
  pub none : first ≡ []
  pub fresh : c.client.phase ≡ Fresh
  pub pending : c.client.pending ≡ None
  pub awaits : c.awaits ≡ Answer

-- there are the reports that these steps await
pub record HasReports (first : List Step) (reports : List (List Tree)) : Type 0 where
  pub polled : reports_in first ≤ length reports
  pub tagged : tagged_in first ≤ with_tags reports

-- its last step
pub record Last (c : Course) (first : List Step) : Type 0 where
  pub before : List Step
  pub step : Step
  pub parts : first ≡ before ++ step ∷ []
  pub awaits : c.awaits ≡ awaited_after step
  pub reports : HasReports before c.reports

-- what waits for a response after a step, the command of which has this number
abbrev pub pending_after : Step → ℕ → Option Pending
pending_after (Send k) number = awaited number k
pending_after AwaitTags number = None

-- it waits for what its last step asks for; or that was CLOSE_CONNECTION, and failed
pub record Waits (c : Course) (first : List Step) : Type 0 where
  pub last : Last c first
  pub ready : c.client.phase ≡ Ready
  pub pending : (c.client.pending ≡ pending_after last.step (length (commands_in last.before) + 1)) ⊎ ((c.client.pending ≡ None) × (c.left ≡ []))

-- an open course
pub record Standing (limit : ℕ) (plan : Plan) (c : Course) : Type 0 where
  pub order : TakesInOrder plan c
  pub limit_is : c.client.limit ≡ limit
  pub next_id : c.client.next_id ≡ length (commands_in order.first) + 1
  pub at : Begins c order.first ⊎ Waits c order.first

-- all commands were sent, and there were the reports that are awaited
pub record HasAll (plan : Plan) (c : Course) : Type 0 where
  pub sent_are : asked c ≡ numbered 1 (commands plan)
  pub tagged : plan.reports ≤ with_tags c.reports
  pub polled : plan.reports + plan.polls ≤ length c.reports

-- a course in this phase
abbrev pub StandsIn : Phase → ℕ → Plan → Course → Type 0
StandsIn Open limit plan c = Standing limit plan c
StandsIn Closed limit plan c = TakesInOrder plan c × HasAll plan c
StandsIn (Failed error) limit plan c = TakesInOrder plan c

pub order_in : (p : Phase) (limit : ℕ) (plan : Plan) (c : Course) → StandsIn p limit plan c → TakesInOrder plan c
order_in Open limit plan c s = s.order
order_in Closed limit plan c s = s.0
order_in (Failed error) limit plan c s = s

pub begins : (limit : ℕ) (plan : Plan) → Standing limit plan (new_course limit plan)
begins limit plan = record {
  order = record { first = []; parts = refl; sent_are = refl };
  limit_is = refl;
  next_id = omega arith;
  at = inl (record { none = refl; fresh = refl; pending = refl; awaits = refl });
}

-- ---- the next step

-- its client may take the next step
pub record MaySend (limit : ℕ) (plan : Plan) (c : Course) : Type 0 where
  pub order : TakesInOrder plan c
  pub limit_is : c.client.limit ≡ limit
  pub next_id : c.client.next_id ≡ length (commands_in order.first) + 1
  pub ready : c.client.phase ≡ Ready
  pub pending : c.client.pending ≡ None
  pub reports : HasReports order.first c.reports

-- from the one to the other the step after these was taken
pub record StepsOne (plan : Plan) (done : List Step) (c d : Course) : Type 0 where
  pub parts : steps plan ≡ done ++ c.left
  pub step : Step
  pub next : c.left ≡ step ∷ d.left
  pub sent_are : asked d ≡ asked c ++ numbered (length (commands_in done) + 1) (commands_in (step ∷ []))

-- from the one to the other one step was taken at most
pub record Goes (limit : ℕ) (plan : Plan) (done : List Step) (c d : Course) : Type 0 where
  pub stands : StandsIn d.phase limit plan d
  pub takes : TakesNone c d ⊎ StepsOne plan done c d

pub in_phase : (p q : Phase) (limit : ℕ) (plan : Plan) (c : Course) → p ≡ q → StandsIn q limit plan c → StandsIn p limit plan c
in_phase p q limit plan c e s = subst (λ (x : Phase). StandsIn x limit plan c) (sym e) s

-- an order that only what else the course has leaves
abbrev pub same_order : (plan : Plan) (c d : Course) (s : TakesInOrder plan c) → d.left ≡ c.left → asked d ≡ asked c → TakesInOrder plan d
same_order plan c d s l a = record { first = s.first; parts = s.parts ∙ ap (λ (ks : List Step). s.first ++ ks) (sym l); sent_are = a ∙ s.sent_are }

is_sending : (o : Option Refusal) (c : Client) (k : Command) (s : Sending) → sent_unless o c k ≡ Ok s → s ≡ sending c k
is_sending None c k s e = cc
is_sending (Some refusal) c k s e = cc

pub as_sent : (c : Client) (k : Command) (s : Sending) → command c k ≡ Ok s → s ≡ sending c k
unfolding command
as_sent c k s e = is_sending (refused_in c.phase c k) c k s e

sent_last : (c : Course) (m : ClientMessage) → is_command m.word ≡ true → filter (λ (x : ClientMessage). is_command x.word) (c.sent ++ m ∷ []) ≡ asked c ++ m ∷ []
sent_last c m e =
    filter-append (λ (x : ClientMessage). is_command x.word) c.sent (m ∷ []) ∙ ap (λ (b : Bool). asked c ++ cond b (m ∷ []) []) e

-- the order once a step more was taken
abbrev one_more : (plan : Plan) (c d : Course) (step : Step) (left : List Step) (s : TakesInOrder plan c) → c.left ≡ step ∷ left → d.left ≡ left
    → asked d ≡ asked c ++ numbered (length (commands_in s.first) + 1) (commands_in (step ∷ [])) → TakesInOrder plan d
one_more plan c d step left s l m a = record {
  first = s.first ++ step ∷ [];
  parts = s.parts ∙ ap (λ (ks : List Step). s.first ++ ks) (l ∙ ap (λ (ks : List Step). step ∷ ks) (sym m)) ∙ sym (append_assoc s.first (step ∷ []) d.left);
  sent_are = a ∙ ap (λ (ms : List ClientMessage). ms ++ numbered (length (commands_in s.first) + 1) (commands_in (step ∷ []))) s.sent_are ∙ sym (numbered-last s.first step);
}

-- the client takes the command
sent_one : (limit : ℕ) (plan : Plan) (c : Course) (k : Command) (left : List Step) (f : MaySend limit plan c) → c.phase ≡ Open → c.left ≡ Send k ∷ left → Goes limit plan f.order.first c (sends_by (Ok (sending c.client k)) k left c)
sent_one limit plan c k left f opened l =
    let d : Course = sends_by (Ok (sending c.client k)) k left c in
    let first : List Step = f.order.first in
    let m : ClientMessage = record { id = c.client.next_id; word = Asks k } in
    let one : asked d ≡ asked c ++ m ∷ [] = sent_last c m refl in
    let numbers : asked d ≡ asked c ++ numbered (length (commands_in first) + 1) (k ∷ []) = one ∙ ap (λ (n : ℕ). let x : ClientMessage = record { id = n; word = Asks k } in asked c ++ x ∷ []) f.next_id in
    let long : length (commands_in (first ++ Send k ∷ [])) ≡ length (commands_in first) + 1 =
    ap (λ (ks : List Command). length ks) (commands_in-append first (Send k ∷ [])) ∙ omega (arith, length-append (commands_in first) (k ∷ [])) in
    let standing : Standing limit plan d = record {
      order = one_more plan c d (Send k) left f.order l refl numbers;
      limit_is = f.limit_is;
      next_id = omega (arith, f.next_id, long);
      at = inr (record {
        last = record { before = first; step = Send k; parts = refl; awaits = refl; reports = record { polled = f.reports.polled; tagged = f.reports.tagged } };
        ready = f.ready;
        pending = inl (ap (λ (n : ℕ). awaited n k) f.next_id);
      });
    } in
    record { stands = in_phase c.phase Open limit plan d opened standing; takes = inr (record { parts = f.order.parts; step = Send k; next = l; sent_are = numbers }) }

-- a report with a tag is awaited
waits_one : (limit : ℕ) (plan : Plan) (c : Course) (left : List Step) (f : MaySend limit plan c) → c.phase ≡ Open → c.left ≡ AwaitTags ∷ left → Goes limit plan f.order.first c (takes_step AwaitTags left c)
waits_one limit plan c left f opened l =
    let d : Course = takes_step AwaitTags left c in
    let first : List Step = f.order.first in
    let none : asked d ≡ asked c ++ [] = sym (append-nil (asked c)) in
    let long : length (commands_in (first ++ AwaitTags ∷ [])) ≡ length (commands_in first) =
    ap (λ (ks : List Command). length ks) (commands_in-append first (AwaitTags ∷ []) ∙ append-nil (commands_in first)) in
    let standing : Standing limit plan d = record {
      order = one_more plan c d AwaitTags left f.order l refl none;
      limit_is = f.limit_is;
      next_id = omega (arith, f.next_id, long);
      at = inr (record {
        last = record { before = first; step = AwaitTags; parts = refl; awaits = refl; reports = record { polled = f.reports.polled; tagged = f.reports.tagged } };
        ready = f.ready;
        pending = inl f.pending;
      });
    } in
    record { stands = in_phase c.phase Open limit plan d opened standing; takes = inr (record { parts = f.order.parts; step = AwaitTags; next = l; sent_are = none }) }

abbrev pub failed_order : (plan : Plan) (c : Course) (p : Phase) (s : TakesInOrder plan c) → TakesInOrder plan (ends p c)
failed_order plan c p s = same_order plan c (ends p c) s refl refl

sent_by : (limit : ℕ) (plan : Plan) (c : Course) (k : Command) (left : List Step) (r : Result Sending Refusal) (f : MaySend limit plan c) → c.phase ≡ Open → c.left ≡ Send k ∷ left → command c.client k ≡ r
    → Goes limit plan f.order.first c (sends_by r k left c)
sent_by limit plan c k left (Err refusal) f opened l e = record { stands = failed_order plan c (Failed Strange) f.order; takes = inl (record { left = refl; sent_are = refl }) }
sent_by limit plan c k left (Ok s) f opened l e =
    subst (λ (x : Sending). Goes limit plan f.order.first c (sends_by (Ok x) k left c)) (sym (as_sent c.client k s e)) (sent_one limit plan c k left f opened l)

step_taken : (step : Step) (limit : ℕ) (plan : Plan) (c : Course) (left : List Step) (f : MaySend limit plan c) → c.phase ≡ Open → c.left ≡ step ∷ left → Goes limit plan f.order.first c (takes_step step left c)
step_taken (Send k) limit plan c left f opened l = sent_by limit plan c k left (command c.client k) f opened l refl
step_taken AwaitTags limit plan c left f opened l = waits_one limit plan c left f opened l

-- the next step is taken, or none is left
pub goes : (limit : ℕ) (plan : Plan) (c : Course) (ss : List Step) (f : MaySend limit plan c) → Last c f.order.first → c.phase ≡ Open → c.left ≡ ss → Goes limit plan f.order.first c (send_next c)
goes limit plan c (step ∷ left) f last opened l = subst (λ (ks : List Step). Goes limit plan f.order.first c (steps_on ks c)) (sym l) (step_taken step limit plan c left f opened l)
goes limit plan c [] f last opened l =
    let standing : Standing limit plan c = record {
      order = f.order;
      limit_is = f.limit_is;
      next_id = f.next_id;
      at = inr (record { last = last; ready = f.ready; pending = inr (f.pending, l) });
    } in
    subst (λ (ks : List Step). Goes limit plan f.order.first c (steps_on ks c)) (sym l)
    (record { stands = in_phase c.phase Open limit plan c opened standing; takes = inl (record { left = refl; sent_are = refl }) })

-- the first step is taken
pub goes_first : (limit : ℕ) (plan : Plan) (c : Course) (ss : List Step) (f : MaySend limit plan c) → c.phase ≡ Open → c.left ≡ ss → (ss ≡ [] → ⊥) → Goes limit plan f.order.first c (send_next c)
goes_first limit plan c (step ∷ left) f opened l some = subst (λ (ks : List Step). Goes limit plan f.order.first c (steps_on ks c)) (sym l) (step_taken step limit plan c left f opened l)
goes_first limit plan c [] f opened l some = absurd (some refl)
