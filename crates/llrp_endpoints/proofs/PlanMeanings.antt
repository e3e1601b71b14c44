-- What each end of a course that follows a plan means.
use Rattle.std.proofs.Common.{◌≡◌, ℕ, ◌+◌, ◌==◌, true, false, cond, List, [], ◌∷◌, ◌++◌, length, refl, sym, ap, subst, ◌∙◌, inl, inr}
use Rattle.std.specs.Prelude.{◌≢◌, Option, None, Some, Result, Ok, Err}
use Rattle.llrp_tree.specs.Tree.{Tree, MessageTree}
use Rattle.llrp_stream.specs.declared.item.Item.{Item}
use Rattle.llrp_stream.specs.declared.item.Item.TheVariants.{Msg, Bad}
use Rattle.llrp_session.specs.declared.types.ClientPhase.TheVariants.{Fresh, Ready}
use Rattle.llrp_session.specs.declared.types.Command.{Command}
use Rattle.llrp_session.specs.declared.types.Pending.{Pending}
use Rattle.llrp_session.specs.declared.types.Taken.{Taken}
use Rattle.llrp_session.specs.declared.types.Taken.TheVariants.{Connected, Refused, Reply, Tags, Table, Differs, Event, Note, Kept, Closed as ConnectionEnded}
use Rattle.llrp_session.specs.Refusal.{Refusal}
use Rattle.llrp_session.specs.Contents.{Asks, ClientMessage, Heard}
use Rattle.llrp_session.specs.ClientMachine.{Client, Sending, Taking, command, take, awaited}
use Rattle.llrp_session.specs.Reading.{heard_of}
use Rattle.llrp_listing.specs.declared.outcome.ToolErr.TheVariants.{Peer, Strange, Early}
use Rattle.llrp_endpoints.specs.declared.course.Awaits.{Awaits}
use Rattle.llrp_endpoints.specs.declared.course.Awaits.TheVariants.{Answer, TaggedReport, Report, End}
use Rattle.llrp_endpoints.specs.declared.course.Phase.{Phase}
use Rattle.llrp_endpoints.specs.declared.course.Phase.TheVariants.{Open, Closed, Failed}
use Rattle.llrp_endpoints.specs.declared.course.Step.{Step}
use Rattle.llrp_endpoints.specs.declared.course.Step.TheVariants.{Send, AwaitTags}
use Rattle.llrp_endpoints.specs.Plan.{Plan, steps}
use Rattle.llrp_endpoints.specs.Calls.Plans.{commands_in}
use Rattle.llrp_endpoints.specs.Gathering.{Course, ends, ended, sends_by, takes_step, steps_on, send_next, reported, after, after_taking, after_bad, after_item}
use Rattle.llrp_endpoints.specs.Private.GatheringStands.{awaited_after}
use Rattle.llrp_endpoints.specs.Calls.PlanLaws.{course_of, asked, numbered, TakesInOrder, RespondsToLast, TellsStatus, TellsEnd, Told, IsDone, IsEarly, EndsMean}
use Rattle.llrp_endpoints.proofs.PlanClients.{not_zero, Replies, TakesFor, Takes, TakesOr}
use Rattle.llrp_endpoints.proofs.PlanCommands.{closes_last, some_steps, numbered-last}
use Rattle.llrp_endpoints.proofs.PlanSteps.{Standing, pending_after}
use Rattle.llrp_endpoints.proofs.PlanFollowing.{bad_either, takes_so, has_all}
use Rattle.llrp_endpoints.proofs.PlanEnds.{ended_at, standing}

-- ---- what an end other than Strange comes of

record IsOther (p : Phase) : Type 0 where
  not_open : p ≢ Open
  not_strange : p ≢ Failed Strange

-- what a message was taken for ends a course so
abbrev EndsAs : Taken → Awaits → Phase → Type 0
EndsAs (Refused status) a p = p ≡ Failed (Peer status)
EndsAs (Reply status) a p = (status ≢ 0) × (p ≡ Failed (Peer status))
EndsAs ConnectionEnded a p = p ≡ ended a
EndsAs Connected a p = ⊥
EndsAs (Tags tags) a p = ⊥
EndsAs (Table rospecs) a p = ⊥
EndsAs (Differs rospecs) a p = ⊥
EndsAs (Event id state) a p = ⊥
EndsAs Note a p = ⊥
EndsAs Kept a p = ⊥

not_sent : (p : Phase) (r : Result Sending Refusal) (k : Command) (later : List Step) (e : Course) → e.phase ≡ Open → IsOther p → (sends_by r k later e).phase ≡ p → ⊥
not_sent p (Ok sending) k later e opened o z = o.not_open (sym z ∙ opened)
not_sent p (Err refusal) k later e opened o z = o.not_strange (sym z)

not_stepping : (p : Phase) (step : Step) (later : List Step) (e : Course) → e.phase ≡ Open → IsOther p → (takes_step step later e).phase ≡ p → ⊥
not_stepping p (Send k) later e opened o z = not_sent p (command e.client k) k later e opened o z
not_stepping p AwaitTags later e opened o z = o.not_open (sym z ∙ opened)

not_sending : (p : Phase) (ss : List Step) (e : Course) → e.phase ≡ Open → IsOther p → (steps_on ss e).phase ≡ p → ⊥
not_sending p [] e opened o z = o.not_open (sym z ∙ opened)
not_sending p (step ∷ later) e opened o z = not_stepping p step later e opened o z

not_reporting : (p : Phase) (a : Awaits) (tags : List Tree) (e : Course) → e.phase ≡ Open → IsOther p → (reported a tags e).phase ≡ p → ⊥
not_reporting p Answer tags e opened o z = o.not_open (sym z ∙ opened)
not_reporting p End tags e opened o z = o.not_open (sym z ∙ opened)
not_reporting p Report tags e opened o z = not_sending p e.left e opened o z
not_reporting p TaggedReport [] e opened o z = o.not_open (sym z ∙ opened)
not_reporting p TaggedReport (tag ∷ tags) e opened o z = not_sending p e.left e opened o z

replied_so : (p : Phase) (status : ℕ) (e : Course) → e.phase ≡ Open → IsOther p → (after (Reply status) e).phase ≡ p → EndsAs (Reply status) e.awaits p × ((after (Reply status) e).left ≡ e.left)
replied_so p status e opened o =
    elim (status == 0) as (λ b. (status == 0) ≡ b → (cond b (send_next e) (ends (Failed (Peer status)) e)).phase ≡ p → EndsAs (Reply status) e.awaits p × ((cond b (send_next e) (ends (Failed (Peer status)) e)).left ≡ e.left)) [
      | true ↦ λ w z. absurd (not_sending p e.left e opened o z)
      | false ↦ λ w z. ((not_zero status w, sym z), refl)
    ] refl

ends_as : (taken : Taken) (p : Phase) (e : Course) → e.phase ≡ Open → IsOther p → (after taken e).phase ≡ p → EndsAs taken e.awaits p × ((after taken e).left ≡ e.left)
ends_as Connected p e opened o z = absurd (not_sending p e.left e opened o z)
ends_as (Refused status) p e opened o z = (sym z, refl)
ends_as (Reply status) p e opened o z = replied_so p status e opened o z
ends_as (Tags tags) p e opened o z = absurd (not_reporting p e.awaits tags (record e { reports = e.reports ++ tags ∷ [] }) opened o z)
ends_as (Table rospecs) p e opened o z = absurd (not_sending p e.left e opened o z)
ends_as (Differs rospecs) p e opened o z = absurd (o.not_strange (sym z))
ends_as (Event id state) p e opened o z = absurd (o.not_open (sym z ∙ opened))
ends_as Note p e opened o z = absurd (o.not_open (sym z ∙ opened))
ends_as Kept p e opened o z = absurd (o.not_open (sym z ∙ opened))
ends_as ConnectionEnded p e opened o z = (sym z, refl)

-- a message that ended a course so
record EndsBy (c : Course) (id : ℕ) (h : Heard) (p : Phase) (d : Course) : Type 0 where
  taking : Taking
  takes : Takes c.client id h taking
  ends_so : EndsAs taking.taken c.awaits p
  left : d.left ≡ c.left

ends_by : (r : Result Taking Refusal) (c : Course) (id : ℕ) (h : Heard) (p : Phase) → c.phase ≡ Open → IsOther p → TakesOr c.client id h r → (after_taking r c).phase ≡ p → EndsBy c id h p (after_taking r c)
ends_by (Err refusal) c id h p opened o k z = absurd (o.not_strange (sym z))
ends_by (Ok t) c id h p opened o k z =
    let so = ends_as t.taken p (record c { client = t.client; sent = c.sent ++ t.sent }) opened o z in
    record { taking = t; takes = k; ends_so = so.0; left = so.1 }

-- an item that ended a course so
record EndItem (c : Course) (item : Item) (p : Phase) (d : Course) : Type 0 where
  message : MessageTree
  item_is : item ≡ Msg message
  by : EndsBy c message.id (heard_of message) p d

end_item : (limit : ℕ) (plan : Plan) (c : Course) (item : Item) (p : Phase) → Standing limit plan c → c.phase ≡ Open → IsOther p → (after_item item c).phase ≡ p → EndItem c item p (after_item item c)
end_item limit plan c (Msg m) p s opened o z =
    record { message = m; item_is = refl; by = ends_by (take c.client m.id (heard_of m)) c m.id (heard_of m) p opened o (takes_so limit plan c m.id (heard_of m) s) z }
end_item limit plan c (Bad id fault) p s opened o z =
    elim (bad_either fault.reason c) as (λ x. EndItem c (Bad id fault) p (after_bad fault.reason c)) [
      | inl e ↦ absurd (o.not_open (sym z ∙ ap (λ (x : Course). x.phase) e ∙ opened))
      | inr e ↦ absurd (o.not_strange (sym z ∙ ap (λ (x : Course). x.phase) e))
    ]

-- where a course ended so, and at which message
record EndsThere (limit : ℕ) (plan : Plan) (items : List Item) (p : Phase) : Type 0 where
  before : List Item
  message : MessageTree
  later : List Item
  parts : items ≡ before ++ Msg message ∷ later
  open_is : (course_of limit plan before).phase ≡ Open
  by : EndsBy (course_of limit plan before) message.id (heard_of message) p (course_of limit plan items)

ends_there : (limit : ℕ) (plan : Plan) (items : List Item) (p : Phase) → IsOther p → (course_of limit plan items).phase ≡ p → EndsThere limit plan items p
ends_there limit plan items p o z =
    let at = ended_at limit plan items (λ e. o.not_open (sym z ∙ e)) in
    let c : Course = course_of limit plan at.before in
    let it : EndItem c at.item p (after_item at.item c) = end_item limit plan c at.item p (standing limit plan at.before at.open_is) at.open_is o (ap (λ (x : Course). x.phase) (sym at.end_is) ∙ z) in
    record {
      before = at.before;
      message = it.message;
      later = at.later;
      parts = at.parts ∙ ap (λ (x : Item). at.before ++ x ∷ at.later) it.item_is;
      open_is = at.open_is;
      by = subst (λ (d : Course). EndsBy c it.message.id (heard_of it.message) p d) (sym at.end_is) it.by;
    }

-- ---- a status

no_commands : (limit : ℕ) (plan : Plan) (c : Course) → Standing limit plan c → c.client.phase ≡ Fresh → asked c ≡ []
no_commands limit plan c s fresh =
    elim (s.at) as (λ x. asked c ≡ []) [
      | inl b ↦ s.order.sent_are ∙ ap (λ (x : List Step). numbered 1 (commands_in x)) b.none
      | inr w ↦ let x = w.ready in let same : Fresh ≡ Ready = cc in absurd cc
    ]

by_pending : (o : Option Pending) (done before : List ClientMessage) (number : ℕ) (k : Command) (status id : ℕ) (h : Heard) → awaited number k ≡ o → done ≡ before ++ record { id = number; word = Asks k } ∷ [] → Replies o status id h → RespondsToLast done status id h
by_pending None done before number k status id h e parts r = absurd r
by_pending (Some p) done before number k status id h e parts r = record { before = before; number = number; k = k; parts = parts; pending = p; waits = e; responds = r }

-- the last step is a command
by_step : (step : Step) (plan : Plan) (c : Course) (s : TakesInOrder plan c) (before : List Step) (status id : ℕ) (h : Heard) → s.first ≡ before ++ step ∷ [] → Replies (pending_after step (length (commands_in before) + 1)) status id h
    → RespondsToLast (asked c) status id h
by_step (Send k) plan c s before status id h parts r =
    let number : ℕ = length (commands_in before) + 1 in
    by_pending (awaited number k) (asked c) (numbered 1 (commands_in before)) number k status id h refl
    (s.sent_are ∙ ap (λ (x : List Step). numbered 1 (commands_in x)) parts ∙ numbered-last before (Send k)) r
by_step AwaitTags plan c s before status id h parts r = absurd r

responds_to_last : (limit : ℕ) (plan : Plan) (c : Course) (status id : ℕ) (h : Heard) → Standing limit plan c → c.client.phase ≡ Ready → Replies c.client.pending status id h → RespondsToLast (asked c) status id h
responds_to_last limit plan c status id h s ready r =
    elim (s.at) as (λ x. RespondsToLast (asked c) status id h) [
      | inl b ↦ let x = b.fresh in let same : Fresh ≡ Ready = cc in absurd cc
      | inr w ↦ elim (w.pending) as (λ x. RespondsToLast (asked c) status id h) [
        | inr none ↦ absurd (subst (λ (o : Option Pending). Replies o status id h) none.0 r)
        | inl p ↦ by_step w.last.step plan c s.order w.last.before status id h w.last.parts (subst (λ (o : Option Pending). Replies o status id h) p r)
      ]
    ]

same_status : (m n : ℕ) → Failed (Peer m) ≡ Failed (Peer n) → n ≡ m
same_status m n e = cc

not_peer : (a : Awaits) (status : ℕ) → Failed (Peer status) ≡ ended a → ⊥
not_peer Answer status e = cc
not_peer TaggedReport status e = cc
not_peer Report status e = cc
not_peer End status e = cc

tells_status : (taken : Taken) (limit : ℕ) (plan : Plan) (c : Course) (d : Client) (status id : ℕ) (h : Heard) → Standing limit plan c → TakesFor taken c.client d id h → EndsAs taken c.awaits (Failed (Peer status)) → TellsStatus status (asked c) id h
tells_status (Refused n) limit plan c d status id h s t e =
    subst (λ (x : ℕ). TellsStatus x (asked c) id h) (same_status status n e) (t.status_is, inl (no_commands limit plan c s t.was, t.refuses))
tells_status (Reply n) limit plan c d status id h s t e =
    subst (λ (x : ℕ). TellsStatus x (asked c) id h) (same_status status n e.1) (e.0, inr (responds_to_last limit plan c n id h s t.was t.replies))
tells_status ConnectionEnded limit plan c d status id h s t e = absurd (not_peer c.awaits status e)
tells_status Connected limit plan c d status id h s t e = absurd e
tells_status (Tags tags) limit plan c d status id h s t e = absurd e
tells_status (Table rospecs) limit plan c d status id h s t e = absurd e
tells_status (Differs rospecs) limit plan c d status id h s t e = absurd e
tells_status (Event rospec state) limit plan c d status id h s t e = absurd e
tells_status Note limit plan c d status id h s t e = absurd e
tells_status Kept limit plan c d status id h s t e = absurd e

peer : (limit : ℕ) (plan : Plan) (items : List Item) (status : ℕ) → (course_of limit plan items).phase ≡ Failed (Peer status) → Told (TellsStatus status) limit plan items
peer limit plan items status z =
    let at = ends_there limit plan items (Failed (Peer status)) (record { not_open = λ e. cc; not_strange = λ e. cc }) z in
    let c : Course = course_of limit plan at.before in
    record {
      before = at.before;
      message = at.message;
      later = at.later;
      parts = at.parts;
      open_is = at.open_is;
      tells = tells_status at.by.taking.taken limit plan c at.by.taking.client status at.message.id (heard_of at.message) (standing limit plan at.before at.open_is) at.by.takes.by at.by.ends_so;
    }

-- ---- the connection's end

-- no end has a status
IsNoStatus : Phase → Type 0
IsNoStatus p = (status : ℕ) → p ≢ Failed (Peer status)

tells_end : (taken : Taken) (c d : Client) (awaits : Awaits) (p : Phase) (id : ℕ) (h : Heard) → IsNoStatus p → TakesFor taken c d id h → EndsAs taken awaits p → (p ≡ ended awaits) × TellsEnd [] id h
unfolding IsNoStatus
tells_end (Refused n) c d awaits p id h none t e = absurd (none n e)
tells_end (Reply n) c d awaits p id h none t e = absurd (none n e.1)
tells_end ConnectionEnded c d awaits p id h none t e = (e, t)
tells_end Connected c d awaits p id h none t e = absurd e
tells_end (Tags tags) c d awaits p id h none t e = absurd e
tells_end (Table rospecs) c d awaits p id h none t e = absurd e
tells_end (Differs rospecs) c d awaits p id h none t e = absurd e
tells_end (Event rospec state) c d awaits p id h none t e = absurd e
tells_end Note c d awaits p id h none t e = absurd e
tells_end Kept c d awaits p id h none t e = absurd e

told_end : (limit : ℕ) (plan : Plan) (items : List Item) (p : Phase) → IsNoStatus p → EndsThere limit plan items p → Told TellsEnd limit plan items
told_end limit plan items p none at =
    let c : Course = course_of limit plan at.before in
    record {
      before = at.before;
      message = at.message;
      later = at.later;
      parts = at.parts;
      open_is = at.open_is;
      tells = (tells_end at.by.taking.taken c.client at.by.taking.client c.awaits p at.message.id (heard_of at.message) none at.by.takes.by at.by.ends_so).1;
    }

done : (limit : ℕ) (plan : Plan) (items : List Item) → (course_of limit plan items).phase ≡ Closed → IsDone limit plan items
unfolding IsNoStatus
done limit plan items z =
    let all = has_all limit plan items z in
    let at = ends_there limit plan items Closed (record { not_open = λ e. cc; not_strange = λ e. cc }) z in
    record { sent_are = all.sent_are; tagged = all.tagged; polled = all.polled; ended = told_end limit plan items Closed (λ status e. cc) at }

-- a client that does not await the end has a step left
some_left : (limit : ℕ) (plan : Plan) (c : Course) → Standing limit plan c → c.awaits ≢ End → c.left ≢ []
some_left limit plan c s awaits none =
    elim (s.at) as (λ x. ⊥) [
      | inl b ↦ some_steps plan (s.order.parts ∙ ap (λ (ks : List Step). ks ++ c.left) b.none ∙ none)
      | inr w ↦
          let parts : steps plan ≡ (w.last.before ++ w.last.step ∷ []) ++ [] = s.order.parts ∙ ap (λ (ks : List Step). ks ++ c.left) w.last.parts ∙ ap (λ (ks : List Step). (w.last.before ++ w.last.step ∷ []) ++ ks) none in
          awaits (w.last.awaits ∙ ap awaited_after (closes_last plan w.last.before w.last.step parts))
    ]

not_end : (a : Awaits) → Failed Early ≡ ended a → a ≢ End
not_end Answer z e = cc
not_end TaggedReport z e = cc
not_end Report z e = cc
not_end End z e = cc

early : (limit : ℕ) (plan : Plan) (items : List Item) → (course_of limit plan items).phase ≡ Failed Early → IsEarly limit plan items
unfolding IsNoStatus
early limit plan items z =
    let at = ends_there limit plan items (Failed Early) (record { not_open = λ e. cc; not_strange = λ e. cc }) z in
    let c : Course = course_of limit plan at.before in
    let end = tells_end at.by.taking.taken c.client at.by.taking.client c.awaits (Failed Early) at.message.id (heard_of at.message) (λ status e. cc) at.by.takes.by at.by.ends_so in
    let some : c.left ≢ [] = some_left limit plan c (standing limit plan at.before at.open_is) (not_end c.awaits end.0) in
    record { left = λ none. some (sym at.by.left ∙ none); ended = told_end limit plan items (Failed Early) (λ status e. cc) at }

pub ends_mean : (limit : ℕ) (plan : Plan) (items : List Item) → EndsMean limit plan items
ends_mean limit plan items = record { done = done limit plan items; early = early limit plan items; peer = peer limit plan items }
