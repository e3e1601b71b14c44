-- What a message makes of a course that follows a plan.
use Rattle.std.proofs.Common.{◌≡◌, ℕ, ◌+◌, ◌≤◌, ◌==◌, true, false, cond, List, [], ◌∷◌, ◌++◌, length, refl, sym, ap, subst, ◌∙◌, inl, inr, arith}
use Rattle.std.specs.Prelude.{◌⊎◌, Option, None, Some, Result, Ok, Err}
use Rattle.std.specs.List.{filter}
use Rattle.std.proofs.lemmas.Bool.Decides.{nat_tests}
use Rattle.std.proofs.lemmas.List.{append-nil, length-append}
use Rattle.std.proofs.lemmas.List.Elements.{filter-append}
use Rattle.llrp_tree.specs.Tree.{Tree}
use Rattle.llrp_session.specs.declared.types.ClientPhase.TheVariants.{Fresh, Ready}
use Rattle.llrp_session.specs.declared.types.Command.{Command}
use Rattle.llrp_session.specs.declared.types.Command.TheVariants.{Add, Delete, Start, Stop, Enable, Disable, GetRospecs, SetKeepalive, GetReport, Close}
use Rattle.llrp_session.specs.declared.types.Pending.{Pending}
use Rattle.llrp_session.specs.declared.types.Taken.{Taken}
use Rattle.llrp_session.specs.declared.types.Taken.TheVariants.{Connected, Refused, Reply, Tags, Table, Differs, Event, Note, Kept, Closed as ConnectionEnded}
use Rattle.llrp_session.specs.Refusal.{Refusal}
use Rattle.llrp_session.specs.declared.types.Viewed.{Viewed}
use Rattle.llrp_session.specs.Contents.{ClientMessage, Heard}
use Rattle.llrp_session.specs.ClientMachine.{Client, Taking, awaited}
use Rattle.llrp_listing.specs.declared.outcome.ToolErr.TheVariants.{Peer, Strange, Early}
use Rattle.llrp_endpoints.specs.declared.course.Awaits.{Awaits}
use Rattle.llrp_endpoints.specs.declared.course.Awaits.TheVariants.{Answer, TaggedReport, Report, End}
use Rattle.llrp_endpoints.specs.declared.course.Phase.{Phase}
use Rattle.llrp_endpoints.specs.declared.course.Phase.TheVariants.{Open, Closed, Failed}
use Rattle.llrp_endpoints.specs.declared.course.Step.{Step}
use Rattle.llrp_endpoints.specs.declared.course.Step.TheVariants.{Send, AwaitTags}
use Rattle.llrp_endpoints.specs.Plan.{Plan, steps}
use Rattle.llrp_endpoints.specs.Calls.Plans.{commands_in}
use Rattle.llrp_endpoints.specs.Gathering.{Course, ends, ended, awaited_for, send_next, reported, after, after_taking}
use Rattle.llrp_endpoints.specs.Private.GatheringStands.{awaited_after}
use Rattle.llrp_endpoints.specs.Calls.PlanLaws.{is_command, asked, numbered, TakesInOrder, TakesNone, Answers, ListsView, IsAskedBy, IsAwaitedAfter, has_tag, with_tags}
use Rattle.llrp_endpoints.proofs.PlanClients.{Replies, Joins, IsAnswered, HandsOut, Stays, TakesFor, TakesOr}
use Rattle.llrp_endpoints.proofs.PlanCommands.{poll_of, report_of, tagged_of, reports_in, tagged_in, reports_in-none, tagged_in-none, reports_in-last, tagged_in-last, reports_in-steps, tagged_in-steps, last_closes, some_steps}
use Rattle.llrp_endpoints.proofs.PlanSteps.{Begins, HasReports, HasAll, Last, Waits, Standing, StandsIn, MaySend, StepsOne, Goes, pending_after, in_phase, same_order, failed_order, goes, goes_first}

-- ---- steps

no_poll : (n : ℕ) (k : Command) (status id : ℕ) (h : Heard) → Replies (awaited n k) status id h → poll_of k ≡ 0
no_poll n GetReport status id h r = absurd r
no_poll n (Add spec) status id h r = refl
no_poll n (Delete rospec) status id h r = refl
no_poll n (Start rospec) status id h r = refl
no_poll n (Stop rospec) status id h r = refl
no_poll n (Enable rospec) status id h r = refl
no_poll n (Disable rospec) status id h r = refl
no_poll n GetRospecs status id h r = refl
no_poll n (SetKeepalive ms) status id h r = refl
no_poll n Close status id h r = refl

-- what has a response awaits no report
no_report : (step : Step) (n status id : ℕ) (h : Heard) → Replies (pending_after step n) status id h → report_of step ≡ 0
no_report (Send k) n status id h r = no_poll n k status id h r
no_report AwaitTags n status id h r = absurd r

no_tagged : (step : Step) (n status id : ℕ) (h : Heard) → Replies (pending_after step n) status id h → tagged_of step ≡ 0
no_tagged (Send k) n status id h r = refl
no_tagged AwaitTags n status id h r = absurd r

-- only GET_REPORT awaits a report, and nothing is pending then
polling : (k : Command) → awaited_for k ≡ Report → k ≡ GetReport
polling GetReport e = refl
polling (Add spec) e = cc
polling (Delete id) e = cc
polling (Start id) e = cc
polling (Stop id) e = cc
polling (Enable id) e = cc
polling (Disable id) e = cc
polling GetRospecs e = cc
polling (SetKeepalive ms) e = cc
polling Close e = cc

pub is_poll : (step : Step) → awaited_after step ≡ Report → step ≡ Send GetReport
is_poll (Send k) e = ap (λ (x : Command). Send x) (polling k e)
is_poll AwaitTags e = cc

not_tagged : (k : Command) → awaited_for k ≡ TaggedReport → ⊥
not_tagged GetReport e = cc
not_tagged (Add spec) e = cc
not_tagged (Delete id) e = cc
not_tagged (Start id) e = cc
not_tagged (Stop id) e = cc
not_tagged (Enable id) e = cc
not_tagged (Disable id) e = cc
not_tagged GetRospecs e = cc
not_tagged (SetKeepalive ms) e = cc
not_tagged Close e = cc

pub is_wait : (step : Step) → awaited_after step ≡ TaggedReport → step ≡ AwaitTags
is_wait (Send k) e = absurd (not_tagged k e)
is_wait AwaitTags e = refl

closing : (k : Command) → awaited_for k ≡ End → k ≡ Close
closing Close e = refl
closing (Add spec) e = cc
closing (Delete id) e = cc
closing (Start id) e = cc
closing (Stop id) e = cc
closing (Enable id) e = cc
closing (Disable id) e = cc
closing GetRospecs e = cc
closing (SetKeepalive ms) e = cc
closing GetReport e = cc

pub is_closing : (step : Step) → awaited_after step ≡ End → step ≡ Send Close
is_closing (Send k) e = ap (λ (x : Command). Send x) (closing k e)
is_closing AwaitTags e = cc

answers : (o : Option Pending) (view : List Viewed) (id : ℕ) (h : Heard) → Replies o 0 id h → ListsView view h → Answers o view id h
answers None view id h r l = absurd r
answers (Some p) view id h r l = (r, l)

asked_by : (step : Step) (n : ℕ) (view : List Viewed) (id : ℕ) (h : Heard) → Replies (pending_after step n) 0 id h → ListsView view h → IsAskedBy step n view id h
asked_by (Send k) n view id h r l = answers (awaited n k) view id h r l
asked_by AwaitTags n view id h r l = absurd r

-- ---- reports

-- a report more
one_tagged : (tags : List Tree) (reports : List (List Tree)) → with_tags (reports ++ tags ∷ []) ≡ with_tags reports + length (filter has_tag (tags ∷ []))
one_tagged tags reports =
    ap (λ (x : List (List Tree)). length x) (filter-append has_tag reports (tags ∷ [])) ∙ length-append (filter has_tag reports) (filter has_tag (tags ∷ []))

-- ---- a message that was taken

-- only the client changed, and no command was sent
pub record Moved (c e : Course) : Type 0 where
  pub phase : e.phase ≡ c.phase
  pub left : e.left ≡ c.left
  pub awaits : e.awaits ≡ c.awaits
  pub reports : length c.reports ≤ length e.reports
  pub tagged : with_tags c.reports ≤ with_tags e.reports
  pub asked_are : asked e ≡ asked c
  pub limit_is : e.client.limit ≡ c.client.limit
  pub next_id : e.client.next_id ≡ c.client.next_id

-- from the one to the other a step was taken, at what was awaited for it
pub record AwaitedOne (plan : Plan) (c d : Course) (id : ℕ) (h : Heard) : Type 0 where
  pub done : List Step
  pub one : StepsOne plan done c d
  pub awaits : IsAwaitedAfter done c.client.view id h

-- from the one to the other one step was taken at most, at what was awaited for it
pub record Follows (limit : ℕ) (plan : Plan) (c d : Course) (id : ℕ) (h : Heard) : Type 0 where
  pub stands : StandsIn d.phase limit plan d
  pub takes : TakesNone c d ⊎ AwaitedOne plan c d id h

abbrev moved_order : (plan : Plan) (c e : Course) → Moved c e → TakesInOrder plan c → TakesInOrder plan e
moved_order plan c e m s = same_order plan c e s m.left m.asked_are

abbrev more_reports : (first : List Step) (c e : Course) → Moved c e → HasReports first c.reports → HasReports first e.reports
more_reports first c e m r = let a = m.reports in let b = m.tagged in let x = r.polled in let y = r.tagged in record { polled = omega arith; tagged = omega arith }

abbrev moved_last : (c e : Course) (first : List Step) → Moved c e → Last c first → Last e first
moved_last c e first m last = record { before = last.before; step = last.step; parts = last.parts; awaits = m.awaits ∙ last.awaits; reports = more_reports last.before c e m last.reports }

-- the next step is taken at what was awaited for it
goes_awaited : (limit : ℕ) (plan : Plan) (done : List Step) (c e d : Course) (id : ℕ) (h : Heard) → Moved c e → IsAwaitedAfter done c.client.view id h → Goes limit plan done e d → Follows limit plan c d id h
goes_awaited limit plan done c e d id h m due g = record {
  stands = g.stands;
  takes = elim (g.takes) as (λ x. TakesNone c d ⊎ AwaitedOne plan c d id h) [
    | inl none ↦ inl (record { left = none.left ∙ m.left; sent_are = none.sent_are ∙ m.asked_are })
    | inr one ↦ inr (record {
      done = done;
      one = record {
        parts = one.parts ∙ ap (λ (x : List Step). done ++ x) m.left;
        step = one.step;
        next = sym m.left ∙ one.next;
        sent_are = one.sent_are ∙ ap (λ (ms : List ClientMessage). ms ++ numbered (length (commands_in done) + 1) (commands_in (one.step ∷ []))) m.asked_are;
      };
      awaits = due;
    })
  ];
}

-- it ends, or is passed over
ended_so : (limit : ℕ) (plan : Plan) (c e : Course) (id : ℕ) (h : Heard) (p : Phase) → Moved c e → StandsIn p limit plan (ends p e) → Follows limit plan c (ends p e) id h
ended_so limit plan c e id h p m s = record { stands = s; takes = inl (record { left = m.left; sent_are = m.asked_are }) }

-- what its last step asks for is awaited
last_asks : (c : Course) (first : List Step) (last : Last c first) (id : ℕ) (h : Heard) → IsAskedBy last.step (length (commands_in last.before) + 1) c.client.view id h → IsAwaitedAfter first c.client.view id h
last_asks c first last id h a = inr (record { before = last.before; step = last.step; parts = last.parts; is_asked = a })

-- ---- the connection

joined : (limit : ℕ) (plan : Plan) (c e : Course) (id : ℕ) (h : Heard) → Standing limit plan c → c.phase ≡ Open → Moved c e → Joins c.client e.client h → Follows limit plan c (send_next e) id h
joined limit plan c e id h s opened m j =
    elim (s.at) as (λ x. Follows limit plan c (send_next e) id h) [
      | inr w ↦ let a = w.ready in let b = j.was in let no : Fresh ≡ Ready = cc in absurd cc
      | inl b ↦
          let order = moved_order plan c e m s.order in
          let polls : reports_in s.order.first ≡ 0 = ap reports_in b.none ∙ reports_in-none in
          let tagged : tagged_in s.order.first ≡ 0 = ap tagged_in b.none ∙ tagged_in-none in
          let free : MaySend limit plan e = record {
            order = order;
            limit_is = m.limit_is ∙ s.limit_is;
            next_id = m.next_id ∙ s.next_id;
            ready = j.is;
            pending = j.pending ∙ b.pending;
            reports = record { polled = omega arith; tagged = omega arith };
          } in
          let some : e.left ≡ [] → ⊥ = λ none. some_steps plan (order.parts ∙ ap (λ (ks : List Step). ks ++ e.left) b.none ∙ none) in
          goes_awaited limit plan s.order.first c e (send_next e) id h m (inl (b.none, j.accepts)) (goes_first limit plan e e.left free (m.phase ∙ opened) refl some)
    ]

-- ---- a response

answered_so : (limit : ℕ) (plan : Plan) (c e : Course) (status id : ℕ) (h : Heard) → Standing limit plan c → c.phase ≡ Open → Moved c e → IsAnswered c.client e.client status id h → status ≡ 0 → Follows limit plan c (send_next e) id h
answered_so limit plan c e status id h s opened m a zero =
    elim (s.at) as (λ x. Follows limit plan c (send_next e) id h) [
      | inl b ↦ let x = b.fresh in let y = a.was in let no : Fresh ≡ Ready = cc in absurd cc
      | inr w ↦ elim (w.pending) as (λ x. Follows limit plan c (send_next e) id h) [
        | inr none ↦ absurd (subst (λ (o : Option Pending). Replies o status id h) none.0 a.replies)
        | inl waits ↦
            let last = w.last in
            let number : ℕ = length (commands_in last.before) + 1 in
            let replies : Replies (pending_after last.step number) status id h = subst (λ (o : Option Pending). Replies o status id h) waits a.replies in
            let no_poll = no_report last.step number status id h replies in
            let no_tag = no_tagged last.step number status id h replies in
            let polls : reports_in s.order.first ≡ reports_in last.before + report_of last.step = ap reports_in last.parts ∙ reports_in-last last.before last.step in
            let tags : tagged_in s.order.first ≡ tagged_in last.before + tagged_of last.step = ap tagged_in last.parts ∙ tagged_in-last last.before last.step in
            let kept : Last e s.order.first = moved_last c e s.order.first m last in
            let polled : reports_in last.before ≤ length e.reports = kept.reports.polled in
            let tagged : tagged_in last.before ≤ with_tags e.reports = kept.reports.tagged in
            let free : MaySend limit plan e = record {
              order = moved_order plan c e m s.order;
              limit_is = m.limit_is ∙ s.limit_is;
              next_id = m.next_id ∙ s.next_id;
              ready = a.is;
              pending = a.pending;
              reports = record { polled = omega arith; tagged = omega arith };
            } in
            let due = last_asks c s.order.first last id h
            (asked_by last.step number c.client.view id h (subst (λ (n : ℕ). Replies (pending_after last.step number) n id h) zero replies) (a.lists zero)) in
            goes_awaited limit plan s.order.first c e (send_next e) id h m due (goes limit plan e e.left free kept (m.phase ∙ opened) refl)
      ]
    ]

by_status : (limit : ℕ) (plan : Plan) (c e : Course) (status id : ℕ) (h : Heard) → Standing limit plan c → c.phase ≡ Open → Moved c e → IsAnswered c.client e.client status id h → Follows limit plan c (after (Reply status) e) id h
by_status limit plan c e status id h s opened m a =
    elim (status == 0) as (λ b. (status == 0) ≡ b → Follows limit plan c (cond b (send_next e) (ends (Failed (Peer status)) e)) id h) [
      | true ↦ λ z. let zero : status ≡ 0 = grind (arith, nat_tests) in answered_so limit plan c e status id h s opened m a zero
      | false ↦ λ z. ended_so limit plan c e id h (Failed (Peer status)) m (failed_order plan e (Failed (Peer status)) (moved_order plan c e m s.order))
    ] refl

-- ---- what is passed over

stayed : (limit : ℕ) (plan : Plan) (c e : Course) (id : ℕ) (h : Heard) → Standing limit plan c → c.phase ≡ Open → Moved c e → Stays c.client e.client → Follows limit plan c e id h
stayed limit plan c e id h s opened m y =
    let at : Begins e s.order.first ⊎ Waits e s.order.first = elim (s.at) as (λ x. Begins e s.order.first ⊎ Waits e s.order.first) [
      | inl b ↦ inl (record { none = b.none; fresh = y.phase ∙ b.fresh; pending = y.pending ∙ b.pending; awaits = m.awaits ∙ b.awaits })
      | inr w ↦
          inr (record {
            last = moved_last c e s.order.first m w.last;
            ready = y.phase ∙ w.ready;
            pending = elim (w.pending) as (λ x. (e.client.pending ≡ pending_after w.last.step (length (commands_in w.last.before) + 1)) ⊎ ((e.client.pending ≡ None) × (e.left ≡ []))) [
              | inl p ↦ inl (y.pending ∙ p)
              | inr p ↦ inr (y.pending ∙ p.0, m.left ∙ p.1)
            ];
          })
    ] in
    let standing : Standing limit plan e = record { order = moved_order plan c e m s.order; limit_is = m.limit_is ∙ s.limit_is; next_id = m.next_id ∙ s.next_id; at = at } in
    record { stands = in_phase e.phase Open limit plan e (m.phase ∙ opened) standing; takes = inl (record { left = m.left; sent_are = m.asked_are }) }

-- ---- a report

handed : (c d : Client) (tags : List Tree) (h : Heard) → HandsOut c d tags h → Stays c d
handed c d tags h o = record { phase = ap (λ (x : Client). x.phase) o.same; pending = ap (λ (x : Client). x.pending) o.same }

-- a report that the last step awaits
leads_on : (limit : ℕ) (plan : Plan) (c e : Course) (tags : List Tree) (id : ℕ) (h : Heard) (s : Standing limit plan c) (w : Waits c s.order.first) → c.phase ≡ Open → Moved c e → HandsOut c.client e.client tags h
    → pending_after w.last.step (length (commands_in w.last.before) + 1) ≡ None → IsAskedBy w.last.step (length (commands_in w.last.before) + 1) c.client.view id h
    → length c.reports + report_of w.last.step ≤ length e.reports → with_tags c.reports + tagged_of w.last.step ≤ with_tags e.reports → Follows limit plan c (send_next e) id h
leads_on limit plan c e tags id h s w opened m o none asks long long_tags =
    let last = w.last in
    let pending : c.client.pending ≡ None = elim (w.pending) as (λ x. c.client.pending ≡ None) [ inl p ↦ p ∙ none | inr p ↦ p.0 ] in
    let polls : reports_in s.order.first ≡ reports_in last.before + report_of last.step = ap reports_in last.parts ∙ reports_in-last last.before last.step in
    let tags_are : tagged_in s.order.first ≡ tagged_in last.before + tagged_of last.step = ap tagged_in last.parts ∙ tagged_in-last last.before last.step in
    let polled : reports_in last.before ≤ length c.reports = last.reports.polled in
    let tagged : tagged_in last.before ≤ with_tags c.reports = last.reports.tagged in
    let free : MaySend limit plan e = record {
      order = moved_order plan c e m s.order;
      limit_is = m.limit_is ∙ s.limit_is;
      next_id = m.next_id ∙ s.next_id;
      ready = ap (λ (x : Client). x.phase) o.same ∙ o.was;
      pending = ap (λ (x : Client). x.pending) o.same ∙ pending;
      reports = record { polled = omega arith; tagged = omega arith };
    } in
    let kept : Last e s.order.first = moved_last c e s.order.first m last in
    goes_awaited limit plan s.order.first c e (send_next e) id h m (last_asks c s.order.first last id h asks) (goes limit plan e e.left free kept (m.phase ∙ opened) refl)

-- a poll's report
by_poll : (limit : ℕ) (plan : Plan) (c e : Course) (tags : List Tree) (id : ℕ) (h : Heard) → Standing limit plan c → c.phase ≡ Open → Moved c e → length c.reports + 1 ≤ length e.reports → HandsOut c.client e.client tags h
    → c.awaits ≡ Report → Follows limit plan c (send_next e) id h
by_poll limit plan c e tags id h s opened m more o w =
    elim (s.at) as (λ x. Follows limit plan c (send_next e) id h) [
      | inl b ↦ let x = b.fresh in let y = o.was in let no : Fresh ≡ Ready = cc in absurd cc
      | inr v ↦
          let number : ℕ = length (commands_in v.last.before) + 1 in
          let poll : v.last.step ≡ Send GetReport = is_poll v.last.step (sym v.last.awaits ∙ w) in
          let one : report_of v.last.step ≡ 1 = ap report_of poll in
          let no_tag : tagged_of v.last.step ≡ 0 = ap tagged_of poll in
          let tagged : with_tags c.reports ≤ with_tags e.reports = m.tagged in
          leads_on limit plan c e tags id h s v opened m o (ap (λ (x : Step). pending_after x number) poll)
          (subst (λ (x : Step). IsAskedBy x number c.client.view id h) (sym poll) (tags, o.report)) (omega arith) (omega arith)
    ]

-- a report with a tag
by_wait : (limit : ℕ) (plan : Plan) (c e : Course) (tag : Tree) (tags : List Tree) (id : ℕ) (h : Heard) → Standing limit plan c → c.phase ≡ Open → Moved c e → length c.reports + 1 ≤ length e.reports → with_tags c.reports + 1 ≤ with_tags e.reports
    → HandsOut c.client e.client (tag ∷ tags) h → c.awaits ≡ TaggedReport → Follows limit plan c (send_next e) id h
by_wait limit plan c e tag tags id h s opened m more more_tags o w =
    elim (s.at) as (λ x. Follows limit plan c (send_next e) id h) [
      | inl b ↦ let x = b.fresh in let y = o.was in let no : Fresh ≡ Ready = cc in absurd cc
      | inr v ↦
          let number : ℕ = length (commands_in v.last.before) + 1 in
          let wait : v.last.step ≡ AwaitTags = is_wait v.last.step (sym v.last.awaits ∙ w) in
          let one : report_of v.last.step ≡ 1 = ap report_of wait in
          let one_tag : tagged_of v.last.step ≡ 1 = ap tagged_of wait in
          leads_on limit plan c e (tag ∷ tags) id h s v opened m o (ap (λ (x : Step). pending_after x number) wait)
          (subst (λ (x : Step). IsAskedBy x number c.client.view id h) (sym wait) (tag, tags, o.report)) (omega arith) (omega arith)
    ]

by_report : (limit : ℕ) (plan : Plan) (c e : Course) (tags : List Tree) (id : ℕ) (h : Heard) → Standing limit plan c → c.phase ≡ Open → Moved c e → length c.reports + 1 ≤ length e.reports
    → with_tags c.reports + length (filter has_tag (tags ∷ [])) ≤ with_tags e.reports → HandsOut c.client e.client tags h → (a : Awaits) → c.awaits ≡ a → Follows limit plan c (reported a tags e) id h
by_report limit plan c e tags id h s opened m more more_tags o Answer w = stayed limit plan c e id h s opened m (handed c.client e.client tags h o)
by_report limit plan c e tags id h s opened m more more_tags o End w = stayed limit plan c e id h s opened m (handed c.client e.client tags h o)
by_report limit plan c e tags id h s opened m more more_tags o Report w = by_poll limit plan c e tags id h s opened m more o w
by_report limit plan c e [] id h s opened m more more_tags o TaggedReport w = stayed limit plan c e id h s opened m (handed c.client e.client [] h o)
by_report limit plan c e (tag ∷ tags) id h s opened m more more_tags o TaggedReport w = by_wait limit plan c e tag tags id h s opened m more more_tags o w

-- ---- the end of the connection

closed_so : (limit : ℕ) (plan : Plan) (c e : Course) → Standing limit plan c → Moved c e → c.awaits ≡ End → HasAll plan e
closed_so limit plan c e s m w =
    elim (s.at) as (λ x. HasAll plan e) [
      | inl b ↦ let x = b.awaits in let no : Answer ≡ End = cc in absurd cc
      | inr v ↦
          let last = v.last in
          let closing : last.step ≡ Send Close = is_closing last.step (sym last.awaits ∙ w) in
          let parts : s.order.first ≡ last.before ++ Send Close ∷ [] = last.parts ∙ ap (λ (x : Step). last.before ++ x ∷ []) closing in
          let none : c.left ≡ [] = last_closes plan last.before c.left (s.order.parts ∙ ap (λ (ks : List Step). ks ++ c.left) parts) in
          let all : steps plan ≡ s.order.first = s.order.parts ∙ ap (λ (ks : List Step). s.order.first ++ ks) none ∙ append-nil s.order.first in
          let polls : reports_in s.order.first ≡ reports_in last.before + 0 = ap reports_in parts ∙ reports_in-last last.before (Send Close) in
          let tags : tagged_in s.order.first ≡ tagged_in last.before + 0 = ap tagged_in parts ∙ tagged_in-last last.before (Send Close) in
          let asked_for : reports_in s.order.first ≡ plan.reports + plan.polls = ap reports_in (sym all) ∙ reports_in-steps plan in
          let awaited_for : tagged_in s.order.first ≡ plan.reports = ap tagged_in (sym all) ∙ tagged_in-steps plan in
          let kept : HasReports last.before e.reports = more_reports last.before c e m last.reports in
          let polled : reports_in last.before ≤ length e.reports = kept.polled in
          let tagged : tagged_in last.before ≤ with_tags e.reports = kept.tagged in
          record { sent_are = m.asked_are ∙ s.order.sent_are ∙ ap (λ (x : List Step). numbered 1 (commands_in x)) (sym all); tagged = omega arith; polled = omega arith }
    ]

by_end : (limit : ℕ) (plan : Plan) (c e : Course) (id : ℕ) (h : Heard) → Standing limit plan c → Moved c e → (a : Awaits) → c.awaits ≡ a → Follows limit plan c (ends (ended a) e) id h
by_end limit plan c e id h s m Answer w = ended_so limit plan c e id h (Failed Early) m (failed_order plan e (Failed Early) (moved_order plan c e m s.order))
by_end limit plan c e id h s m TaggedReport w = ended_so limit plan c e id h (Failed Early) m (failed_order plan e (Failed Early) (moved_order plan c e m s.order))
by_end limit plan c e id h s m Report w = ended_so limit plan c e id h (Failed Early) m (failed_order plan e (Failed Early) (moved_order plan c e m s.order))
by_end limit plan c e id h s m End w =
    let done = closed_so limit plan c e s m w in
    ended_so limit plan c e id h Closed m (failed_order plan e Closed (moved_order plan c e m s.order), record { sent_are = done.sent_are; tagged = done.tagged; polled = done.polled })

-- ---- any message

taken_for : (taken : Taken) (limit : ℕ) (plan : Plan) (c e : Course) (id : ℕ) (h : Heard) → Standing limit plan c → c.phase ≡ Open → Moved c e → e.reports ≡ c.reports → TakesFor taken c.client e.client id h → Follows limit plan c (after taken e) id h
taken_for Connected limit plan c e id h s opened m r t = joined limit plan c e id h s opened m t
taken_for (Refused status) limit plan c e id h s opened m r t = ended_so limit plan c e id h (Failed (Peer status)) m (failed_order plan e (Failed (Peer status)) (moved_order plan c e m s.order))
taken_for (Reply status) limit plan c e id h s opened m r t = by_status limit plan c e status id h s opened m t
taken_for (Tags tags) limit plan c e id h s opened m r t =
    let d : Course = record e { reports = e.reports ++ tags ∷ [] } in
    let long : length d.reports ≡ length c.reports + 1 = length-append e.reports (tags ∷ []) ∙ ap (λ (x : List (List Tree)). length x + 1) r in
    let with_one : with_tags d.reports ≡ with_tags c.reports + length (filter has_tag (tags ∷ [])) = one_tagged tags e.reports ∙ ap (λ (x : List (List Tree)). with_tags x + length (filter has_tag (tags ∷ []))) r in
    let moved : Moved c d = record { phase = m.phase; left = m.left; awaits = m.awaits; reports = omega arith; tagged = omega arith; asked_are = m.asked_are; limit_is = m.limit_is; next_id = m.next_id } in
    by_report limit plan c d tags id h s opened moved (omega arith) (omega arith) t e.awaits (sym m.awaits)
taken_for (Table rospecs) limit plan c e id h s opened m r t = answered_so limit plan c e 0 id h s opened m t refl
taken_for (Differs rospecs) limit plan c e id h s opened m r t = ended_so limit plan c e id h (Failed Strange) m (failed_order plan e (Failed Strange) (moved_order plan c e m s.order))
taken_for (Event rospec state) limit plan c e id h s opened m r t = stayed limit plan c e id h s opened m t
taken_for Note limit plan c e id h s opened m r t = stayed limit plan c e id h s opened m t
taken_for Kept limit plan c e id h s opened m r t = stayed limit plan c e id h s opened m t
taken_for ConnectionEnded limit plan c e id h s opened m r t = by_end limit plan c e id h s m e.awaits (sym m.awaits)

-- a client that took a message
pub took : (c : Course) (t : Taking) → filter (λ (m : ClientMessage). is_command m.word) t.sent ≡ [] → t.client.limit ≡ c.client.limit → t.client.next_id ≡ c.client.next_id → Moved c (record c { client = t.client; sent = c.sent ++ t.sent })
took c t silent limit_is next_id = record {
  phase = refl;
  left = refl;
  awaits = refl;
  reports = omega arith;
  tagged = omega arith;
  asked_are = filter-append (λ (m : ClientMessage). is_command m.word) c.sent t.sent ∙ ap (λ (ms : List ClientMessage). asked c ++ ms) silent ∙ append-nil (asked c);
  limit_is = limit_is;
  next_id = next_id;
}

pub taking_so : (limit : ℕ) (plan : Plan) (c : Course) (id : ℕ) (h : Heard) (r : Result Taking Refusal) → Standing limit plan c → c.phase ≡ Open → TakesOr c.client id h r → Follows limit plan c (after_taking r c) id h
taking_so limit plan c id h (Err refusal) s opened t = record { stands = failed_order plan c (Failed Strange) s.order; takes = inl (record { left = refl; sent_are = refl }) }
taking_so limit plan c id h (Ok t) s opened k =
    taken_for t.taken limit plan c (record c { client = t.client; sent = c.sent ++ t.sent }) id h s opened (took c t k.silent k.limit k.next_id) refl k.by
