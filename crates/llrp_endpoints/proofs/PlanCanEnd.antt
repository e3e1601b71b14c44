-- A reader can let a plan come to its fine end.
use Rattle.std.proofs.Common.{◌≡◌, ℕ, ◌≤◌, cond, List, [], ◌∷◌, ◌++◌, map, refl, sym, ap, subst, ◌∙◌, append_assoc}
use Rattle.std.proofs.lemmas.Bool.{eq-eqb}
use Rattle.std.specs.Prelude.{◌≢◌, None, Some, Result, Ok}
use Rattle.llrp_schema.specs.declared.kinds.ParamKind.TheVariants.{TagReportData}
use Rattle.llrp_tree.specs.Tree.{Tree}
use Rattle.llrp_stream.specs.declared.item.Item.TheVariants.{Msg}
use Rattle.llrp_session.specs.declared.types.ClientPhase.TheVariants.{Ready}
use Rattle.llrp_session.specs.declared.types.Command.{Command}
use Rattle.llrp_session.specs.declared.types.Command.TheVariants.{Add, Delete, Start, Stop, Enable, Disable, GetRospecs, SetKeepalive, GetReport, Close}
use Rattle.llrp_session.specs.declared.types.Operation.{Operation}
use Rattle.llrp_session.specs.declared.types.Operation.TheVariants.{Adding, Deleting, Starting, Stopping, Enabling, Disabling, Configuring, Closing, Listing}
use Rattle.llrp_session.specs.declared.types.Taken.TheVariants.{Connected, Reply, Tags, Closed as ConnectionEnded}
use Rattle.llrp_session.specs.Refusal.{Refusal}
use Rattle.llrp_session.specs.RoSpec.{rospec_of}
use Rattle.llrp_session.specs.Contents.{ReaderContent, Response, Error, Report as ReportSent, Accepted, ReaderMessage}
use Rattle.llrp_session.specs.Calls.Contents.{heard}
use Rattle.llrp_session.specs.ClientMachine.{Client, Taking, take, takes, failed, unexpected, awaited, cleared, closed, granted, new_client}
use Rattle.llrp_session.specs.Reading.{heard_of}
use Rattle.llrp_session.specs.ReaderMessages.{parameter, reader_message}
use Rattle.llrp_session.proofs.Following.{LeavesOpen, request_with, awaited_response, when_ready}
use Rattle.llrp_session.proofs.MessageReading.{heard_back}
use Rattle.llrp_endpoints.specs.declared.course.Awaits.{Awaits}
use Rattle.llrp_endpoints.specs.declared.course.Phase.{Phase}
use Rattle.llrp_endpoints.specs.declared.course.Phase.TheVariants.{Open, Closed}
use Rattle.llrp_endpoints.specs.declared.course.Step.{Step}
use Rattle.llrp_endpoints.specs.declared.course.Step.TheVariants.{Send, AwaitTags}
use Rattle.llrp_endpoints.specs.Plan.{Plan, steps}
use Rattle.llrp_endpoints.specs.Gathering.{Course, new_course, ended, awaited_for, after_taking, after_item, goes, follow}
use Rattle.llrp_endpoints.specs.Private.GatheringStands.{awaited_after}
use Rattle.llrp_endpoints.specs.Calls.PlanLaws.{IsValid, AwaitsReport, CanEnd}
use Rattle.llrp_endpoints.proofs.PlanCommands.{last_closes, closes_last, some_steps}
use Rattle.llrp_endpoints.proofs.PlanSteps.{Standing, StandsIn, pending_after, begins}
use Rattle.llrp_endpoints.proofs.PlanFollowing.{item_so}
use Rattle.llrp_endpoints.proofs.PlanLeads.{Led, Meets, client_after, led, is_granted}

-- ---- what a reader sends

-- a client that waits for what a command asks for
record AwaitsAfter (client : Client) (awaits : Awaits) (n : ℕ) (k : Command) : Type 0 where
  ready : client.phase ≡ Ready
  pending : client.pending ≡ awaited n k
  awaits_is : awaits ≡ awaited_for k

-- a message of a reader under an id
said : ℕ → ReaderContent → ReaderMessage
said id word = record { version = 1; id = id; word = word }

read_back : (client : Client) (id : ℕ) (word : ReaderContent) → take client (reader_message (said id word)).id (heard_of (reader_message (said id word))) ≡ take client id (heard word)
unfolding reader_message said
read_back client id word = ap (take client id) (heard_back (said id word))

record Answered (client : Client) (awaits : Awaits) : Type 0 where
  message : ReaderMessage
  taking : Taking
  meets : Meets client awaits (reader_message message) taking
  ready : taking.client.phase ≡ Ready
  free : taking.client.pending ≡ None

by_response : (client : Client) (awaits : Awaits) (n : ℕ) (operation : Operation) (rospec : ℕ) → client.phase ≡ Ready → client.pending ≡ Some (request_with n operation rospec) → LeavesOpen operation → Answered client awaits
by_response client awaits n operation rospec ready waits still = record {
  message = said n (Response operation 0);
  taking = record { taken = Reply 0; sent = []; client = record client { pending = None; view = granted operation rospec client.view } };
  meets = record {
    takes = read_back client n (Response operation 0) ∙ awaited_response client n operation rospec 0 ready waits ∙ is_granted operation client (request_with n operation rospec) [] still;
    leads = refl;
  };
  ready = ready;
  free = refl;
}

by_report : (client : Client) (awaits : Awaits) (tags : List Tree) → client.phase ≡ Ready → client.pending ≡ None → AwaitsReport awaits tags → Answered client awaits
by_report client awaits tags ready none w = record {
  message = said 1 (ReportSent tags);
  taking = record { taken = Tags tags; sent = []; client = client };
  meets = record { takes = read_back client 1 (ReportSent tags) ∙ when_ready client 1 (ReportSent tags) ready; leads = w };
  ready = ready;
  free = none;
}

-- an ERROR_MESSAGE of status 0 answers any request
by_error : (client : Client) (awaits : Awaits) (n : ℕ) (operation : Operation) (rospec : ℕ) → client.phase ≡ Ready → client.pending ≡ Some (request_with n operation rospec) → Answered client awaits
by_error client awaits n operation rospec ready waits = record {
  message = said n (Error 0);
  taking = record { taken = Reply 0; sent = []; client = cleared client };
  meets = record {
    takes = read_back client n (Error 0) ∙ when_ready client n (Error 0) ready ∙ ap (λ o. failed o client n 0) waits ∙ ap (λ b. cond b (takes (Reply 0) (cleared client)) unexpected) (eq-eqb n n refl);
    leads = refl;
  };
  ready = ready;
  free = refl;
}

answered_by : (client : Client) (awaits : Awaits) (n : ℕ) (k : Command) → AwaitsAfter client awaits n k → k ≢ Close → Answered client awaits
answered_by client awaits n (Add spec) w open_still = by_response client awaits n Adding (rospec_of spec).id w.ready w.pending tt
answered_by client awaits n (Delete id) w open_still = by_response client awaits n Deleting id w.ready w.pending tt
answered_by client awaits n (Start id) w open_still = by_response client awaits n Starting id w.ready w.pending tt
answered_by client awaits n (Stop id) w open_still = by_response client awaits n Stopping id w.ready w.pending tt
answered_by client awaits n (Enable id) w open_still = by_response client awaits n Enabling id w.ready w.pending tt
answered_by client awaits n (Disable id) w open_still = by_response client awaits n Disabling id w.ready w.pending tt
answered_by client awaits n GetRospecs w open_still = by_error client awaits n Listing 0 w.ready w.pending
answered_by client awaits n (SetKeepalive ms) w open_still = by_response client awaits n Configuring 0 w.ready w.pending tt
answered_by client awaits n GetReport w open_still = by_report client awaits [] w.ready w.pending (subst (λ (a : Awaits). AwaitsReport a []) (sym w.awaits_is) tt)
answered_by client awaits n Close w open_still = absurd (open_still refl)

-- a client that waits for what a step asks for
record StepWaits (client : Client) (awaits : Awaits) (n : ℕ) (step : Step) : Type 0 where
  ready : client.phase ≡ Ready
  pending : client.pending ≡ pending_after step n
  awaits_is : awaits ≡ awaited_after step

-- a tag, whatever it is
a_tag : Tree
a_tag = parameter TagReportData [] []

answered_step : (step : Step) (client : Client) (awaits : Awaits) (n : ℕ) → StepWaits client awaits n step → step ≢ Send Close → Answered client awaits
answered_step (Send k) client awaits n w open_still =
    answered_by client awaits n k (record { ready = w.ready; pending = w.pending; awaits_is = w.awaits_is }) (λ e. open_still (ap (λ (x : Command). Send x) e))
answered_step AwaitTags client awaits n w open_still = by_report client awaits (a_tag ∷ []) w.ready w.pending (subst (λ (a : Awaits). AwaitsReport a (a_tag ∷ [])) (sym w.awaits_is) tt)

-- ---- to the end

-- messages that lead a course to its fine end
EndsWell : Course → Type 0
EndsWell c = (messages : List ReaderMessage) × ((follow (map (λ (m : ReaderMessage). Msg (reader_message m)) messages) c).phase ≡ Closed)

one_before : (c : Course) (m : ReaderMessage) → c.phase ≡ Open → EndsWell (after_item (Msg (reader_message m)) c) → EndsWell c
unfolding EndsWell
one_before c m opened w =
    let step : after_item (Msg (reader_message m)) c ≡ goes c.phase (Msg (reader_message m)) c = ap (λ (p : Phase). goes p (Msg (reader_message m)) c) (sym opened) in
    (m ∷ w.0, subst (λ (d : Course). (follow (map (λ (x : ReaderMessage). Msg (reader_message x)) w.0) d).phase ≡ Closed) step w.1)

closing : (c : Course) (n : ℕ) → c.phase ≡ Open → AwaitsAfter c.client c.awaits n Close → EndsWell c
unfolding EndsWell
closing c n opened w =
    let m : ReaderMessage = said n (Response Closing 0) in
    let taken : take c.client (reader_message m).id (heard_of (reader_message m)) ≡ Ok (record { taken = ConnectionEnded; sent = []; client = closed (cleared c.client) }) =
    read_back c.client n (Response Closing 0) ∙ awaited_response c.client n Closing 0 0 w.ready w.pending in
    let d : Course = after_item (Msg (reader_message m)) c in
    let last : d.phase ≡ Closed = ap (λ (r : Result Taking Refusal). (after_taking r c).phase) taken ∙ ap ended w.awaits_is in
    one_before c m opened ([], last)

-- the client after a step was taken waits for what the step asks for
waits_so : (step : Step) (client d : Client) (awaits : Awaits) (n : ℕ) → client.phase ≡ Ready → client.pending ≡ None → client.next_id ≡ n → d ≡ client_after step client → awaits ≡ awaited_after step → StepWaits d awaits n step
waits_so (Send k) client d awaits n ready none id is w = record {
  ready = ap (λ (x : Client). x.phase) is ∙ ready;
  pending = ap (λ (x : Client). x.pending) is ∙ ap (λ (x : ℕ). awaited x k) id;
  awaits_is = w;
}
waits_so AwaitTags client d awaits n ready none id is w = record { ready = ap (λ (x : Client). x.phase) is ∙ ready; pending = ap (λ (x : Client). x.pending) is ∙ none; awaits_is = w }

to_the_end : (left before : List Step) (step : Step) (limit : ℕ) (plan : Plan) (c : Course) (n : ℕ) → 4096 ≤ limit → IsValid plan → Standing limit plan c → c.phase ≡ Open → StepWaits c.client c.awaits n step → c.left ≡ left
    → steps plan ≡ (before ++ step ∷ []) ++ left → EndsWell c
to_the_end [] before step limit plan c n least fits s opened w l parts =
    let is : step ≡ Send Close = closes_last plan before step parts in
    let last : StepWaits c.client c.awaits n (Send Close) = subst (StepWaits c.client c.awaits n) is w in
    closing c n opened (record { ready = last.ready; pending = last.pending; awaits_is = last.awaits_is })
to_the_end (next ∷ later) before step limit plan c n least fits s opened w l parts =
    let open_still : step ≢ Send Close = λ e.
    let none : next ∷ later ≡ [] = last_closes plan before (next ∷ later) (parts ∙ ap (λ (x : Step). (before ++ x ∷ []) ++ next ∷ later) e) in
    cc in
    let a = answered_step step c.client c.awaits n w open_still in
    let d : Course = after_item (Msg (reader_message a.message)) c in
    let so : Led a.taking.client next later d = led limit plan c (reader_message a.message) a.taking next later least fits s opened a.meets l in
    let stands : Standing limit plan d = subst (λ (p : Phase). StandsIn p limit plan d) so.open_is (item_so limit plan c (Msg (reader_message a.message)) s opened).stands in
    one_before c a.message opened
    (to_the_end later (before ++ step ∷ []) next limit plan d a.taking.client.next_id least fits stands so.open_is
    (waits_so next a.taking.client d.client d.awaits a.taking.client.next_id a.ready a.free refl so.client_is so.awaits) so.left
    (parts ∙ sym (append_assoc (before ++ step ∷ []) (next ∷ []) later)))

accepted : (limit : ℕ) → take (new_client limit 1) 1 (heard (Accepted 0)) ≡ Ok (record { taken = Connected; sent = []; client = record (new_client limit 1) { phase = Ready } })
unfolding take
accepted limit = refl

-- a plan has a first step
record Begun (plan : Plan) : Type 0 where
  step : Step
  later : List Step
  parts : steps plan ≡ step ∷ later

first_of : (ss : List Step) (plan : Plan) → steps plan ≡ ss → Begun plan
first_of [] plan e = absurd (some_steps plan e)
first_of (step ∷ later) plan e = record { step = step; later = later; parts = e }

pub can_end : (limit : ℕ) (plan : Plan) → 4096 ≤ limit → IsValid plan → CanEnd limit plan
unfolding EndsWell
can_end limit plan least fits =
    let c : Course = new_course limit plan in
    let m : ReaderMessage = said 1 (Accepted 0) in
    let t : Taking = record { taken = Connected; sent = []; client = record (new_client limit 1) { phase = Ready } } in
    let d : Course = after_item (Msg (reader_message m)) c in
    let first : Begun plan = first_of (steps plan) plan refl in
    let s : Standing limit plan c = begins limit plan in
    let so : Led t.client first.step first.later d =
    led limit plan c (reader_message m) t first.step first.later least fits s refl (record { takes = read_back c.client 1 (Accepted 0) ∙ accepted limit; leads = tt }) first.parts in
    let stands : Standing limit plan d = subst (λ (p : Phase). StandsIn p limit plan d) so.open_is (item_so limit plan c (Msg (reader_message m)) s refl).stands in
    one_before c m refl
    (to_the_end d.left [] first.step limit plan d 1 least fits stands so.open_is (waits_so first.step t.client d.client d.awaits 1 refl refl refl so.client_is so.awaits) refl
    (first.parts ∙ ap (λ (ss : List Step). first.step ∷ ss) (sym so.left)))
