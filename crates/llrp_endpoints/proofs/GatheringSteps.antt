-- What a client that follows a plan makes of a message.
use Rattle.std.proofs.Common.{◌≡◌, ℕ, ◌+◌, ◌==◌, Bool, true, false, List, [], ◌∷◌, ◌++◌, length, map, min, refl, inl, inr, sym, ap, subst, ◌∙◌, append_assoc, arith, Err, Ok}
use Rattle.std.specs.Prelude.{Result, ◌⊎◌, if◌then◌else◌}
use Rattle.std.proofs.lemmas.List.{append-nil, length-append}
use Rattle.std.proofs.lemmas.List.Concat.{flat_map-append}
use Rattle.llrp_tree.specs.Tree.{Tree, MessageTree}
use Rattle.llrp_tree.specs.declared.fault.Reason.{Reason}
use Rattle.llrp_tree.specs.declared.fault.Reason.TheVariants.{Reserved, Version, MessageType, MessageLength, Short, Value, Count, Utf8, ParamType, Misplaced, TooMany, TooDeep, ParamLength, Extra, Missing}
use Rattle.llrp_session.specs.declared.types.Command.{Command}
use Rattle.llrp_endpoints.specs.declared.course.Step.{Step}
use Rattle.llrp_endpoints.specs.declared.course.Step.TheVariants.{Send, AwaitTags}
use Rattle.llrp_session.specs.declared.types.RoState.{RoState}
use Rattle.llrp_session.specs.declared.types.Taken.{Taken}
use Rattle.llrp_session.specs.declared.types.Taken.TheVariants.{Connected, Refused, Reply, Tags, Table, Differs, Event, Note, Kept, Closed as ConnectionEnded}
use Rattle.llrp_session.specs.declared.client.refusal.TakeFault.{TakeFault}
use Rattle.llrp_session.specs.declared.client.refusal.TakeFault.TheVariants as tf
use Rattle.llrp_session.specs.Calls.ClientSteps.{IsTakeFault}
use Rattle.llrp_session.specs.ClientMachine.{Sending, Taking, command}
use Rattle.llrp_session.specs.ClientMessages.{client_message}
use Rattle.llrp_endpoints.specs.Asides.{Asides, before, said_for, all_said}
use Rattle.llrp_session.specs.Refusal.{Refusal}
use Rattle.llrp_session.specs.Contents.{ClientMessage}
use Rattle.llrp_listing.specs.declared.outcome.ToolErr.{ToolErr}
use Rattle.llrp_listing.specs.declared.outcome.ToolErr.TheVariants.{Memory, Peer, Strange, Early}
use Rattle.llrp_endpoints.specs.declared.course.Awaits.{Awaits}
use Rattle.llrp_endpoints.specs.declared.course.Awaits.TheVariants.{Answer, TaggedReport, Report, End}
use Rattle.llrp_endpoints.specs.declared.gathering.Gathering.{Gathering}
use Rattle.llrp_endpoints.specs.declared.summary.Summary.{Summary}
use Rattle.llrp_endpoints.specs.declared.course.Phase.{Phase}
use Rattle.llrp_endpoints.specs.declared.course.Phase.TheVariants.{Open, Closed, Failed}
use Rattle.llrp_endpoints.specs.Sending.{Adds}
use Rattle.llrp_endpoints.specs.Calls.Sending.{AddsSome}
use Rattle.llrp_endpoints.specs.TagLines.{AreReportLines, tags_of_reports, tag_count, report_count, greatest_count, total_line}
use Rattle.llrp_endpoints.specs.Gathering.{Course, ends, ended, sends_by, takes_step, steps_on, send_next, reported, after, after_taking, after_bad}
use Rattle.llrp_endpoints.specs.Calls.GatheringStands.{Holds, Moves, MovesSome}
use Rattle.llrp_endpoints.specs.Gathering.{closing_text}
use Rattle.llrp_endpoints.specs.Private.GatheringStands.{Does, error_by_message, leads_on}
use Rattle.llrp_endpoints.proofs.SendingLemmas.{adds_none}
use Rattle.llrp_endpoints.proofs.GatheringLemmas.{reports_none, reports_one, open_text, still, none_moved, does_after}

-- ---- how much is added at least

pub record More (c d : Course) : Type 0 where
  pub messages : List ClientMessage
  pub reports : List (List Tree)
  pub sent_are : d.sent ≡ c.sent ++ messages
  pub reports_are : d.reports ≡ c.reports ++ reports
  pub form_is : d.form ≡ c.form
  pub asides_are : d.asides ≡ c.asides

pub no_more : (c : Course) → More c c
no_more c = record { messages = []; reports = []; sent_are = sym (append-nil c.sent); reports_are = sym (append-nil c.reports); form_is = refl; asides_are = refl }

sends_by_more : (step : Result Sending Refusal) (k : Command) (left : List Step) (c : Course) → More c (sends_by step k left c)
sends_by_more (Ok sending) k left c = record { messages = sending.message ∷ []; reports = []; sent_are = refl; reports_are = sym (append-nil c.reports); form_is = refl; asides_are = refl }
sends_by_more (Err refusal) k left c = record { messages = []; reports = []; sent_are = sym (append-nil c.sent); reports_are = sym (append-nil c.reports); form_is = refl; asides_are = refl }

step_more : (step : Step) (left : List Step) (c : Course) → More c (takes_step step left c)
step_more (Send k) left c = sends_by_more (command c.client k) k left c
step_more AwaitTags left c = record { messages = []; reports = []; sent_are = sym (append-nil c.sent); reports_are = sym (append-nil c.reports); form_is = refl; asides_are = refl }

steps_more : (ss : List Step) (c : Course) → More c (steps_on ss c)
steps_more [] c = no_more c
steps_more (step ∷ left) c = step_more step left c

reported_more : (a : Awaits) (tags : List Tree) (c : Course) → More c (reported a tags c)
reported_more Report tags c = steps_more c.left c
reported_more TaggedReport [] c = no_more c
reported_more TaggedReport (tag ∷ tags) c = steps_more c.left c
reported_more Answer tags c = no_more c
reported_more End tags c = no_more c

pub more_more : (c d e : Course) → More c d → More d e → More c e
more_more c d e p q = record {
  messages = p.messages ++ q.messages;
  reports = p.reports ++ q.reports;
  sent_are = q.sent_are ∙ ap (λ (x : List ClientMessage). x ++ q.messages) p.sent_are ∙ append_assoc c.sent p.messages q.messages;
  reports_are = q.reports_are ∙ ap (λ (x : List (List Tree)). x ++ q.reports) p.reports_are ∙ append_assoc c.reports p.reports q.reports;
  form_is = q.form_is ∙ p.form_is;
  asides_are = q.asides_are ∙ p.asides_are;
}

tags_more : (tags : List Tree) (c : Course) → More c (reported c.awaits tags (record c { reports = c.reports ++ tags ∷ [] }))
tags_more tags c =
    let d : Course = record c { reports = c.reports ++ tags ∷ [] } in
    more_more c d (reported c.awaits tags d) (record { messages = []; reports = tags ∷ []; sent_are = sym (append-nil c.sent); reports_are = refl; form_is = refl; asides_are = refl }) (reported_more c.awaits tags d)

status_more : (fine : Bool) (status : ℕ) (c : Course) → More c (if fine then send_next c else ends (Failed (Peer status)) c)
status_more true status c = steps_more c.left c
status_more false status c = record { messages = []; reports = []; sent_are = sym (append-nil c.sent); reports_are = sym (append-nil c.reports); form_is = refl; asides_are = refl }

pub after_more : (taken : Taken) (c : Course) → More c (after taken c)
after_more Connected c = steps_more c.left c
after_more (Refused status) c = record { messages = []; reports = []; sent_are = sym (append-nil c.sent); reports_are = sym (append-nil c.reports); form_is = refl; asides_are = refl }
after_more (Reply status) c = status_more (status == 0) status c
after_more (Tags tags) c = tags_more tags c
after_more (Table rospecs) c = steps_more c.left c
after_more (Differs rospecs) c = record { messages = []; reports = []; sent_are = sym (append-nil c.sent); reports_are = sym (append-nil c.reports); form_is = refl; asides_are = refl }
after_more (Event id state) c = no_more c
after_more Note c = no_more c
after_more Kept c = no_more c
after_more ConnectionEnded c = record { messages = []; reports = []; sent_are = sym (append-nil c.sent); reports_are = sym (append-nil c.reports); form_is = refl; asides_are = refl }

pub out_of_memory : (c d : Course) (o r : List ℕ) → More c d → MovesSome c d o o r r
out_of_memory c d o r m = none_moved c d o r m.messages m.reports m.sent_are m.reports_are m.form_is m.asides_are

-- ---- reports

tags_in-append : (a b : List (List Tree)) → tags_of_reports (a ++ b) ≡ tags_of_reports a + tags_of_reports b
tags_in-append [] b = omega arith
tags_in-append (tags ∷ a) b = let ih = tags_in-append a b in omega (arith, ih)

pub more_tags : (reports : List (List Tree)) (tags : List Tree) (old new : ℕ) → old ≡ tag_count reports → new ≡ min (old + length tags) greatest_count → new ≡ tag_count (reports ++ tags ∷ [])
more_tags reports tags old new e f = let a = tags_in-append reports (tags ∷ []) in omega (arith, a, e, f)

pub more_reports : (reports : List (List Tree)) (tags : List Tree) (old new : ℕ) → old ≡ report_count reports → new ≡ min (old + 1) greatest_count → new ≡ report_count (reports ++ tags ∷ [])
more_reports reports tags old new e f = let a = length-append reports (tags ∷ []) in omega (arith, a, e, f)

same_summary : (s : Summary) (tags reports : ℕ) → s.tags ≡ tags → s.reports ≡ reports → s ≡ record { tags = tags; reports = reports }
same_summary s tags reports e f = ap (λ (n : ℕ). record { tags = n; reports = s.reports }) e ∙ ap (λ (n : ℕ). record { tags = tags; reports = n }) f

-- memory ran out before the lines of a report
pub no_lines : (c : Course) (g : Gathering) (tags : List Tree) (o r : List ℕ) → Does c (after (Tags tags) c) g o o r r (Err Memory)
no_lines c g tags o r = out_of_memory c (after (Tags tags) c) o r (tags_more tags c)

-- the report was counted
pub counted : (c : Course) (g : Gathering) (list : List Tree) (s : Summary) → Holds c g → s.tags ≡ min (g.summary.tags + length list) greatest_count → s.reports ≡ min (g.summary.reports + 1) greatest_count
    → Holds (record c { reports = c.reports ++ list ∷ [] }) (record g { summary = s })
counted c g list s h a b = record {
  client_is = h.client_is;
  form_is = h.form_is;
  asides_are = h.asides_are;
  left_is = h.left_is;
  awaits_is = h.awaits_is;
  counts = same_summary s _ _ (more_tags c.reports list g.summary.tags s.tags (ap (λ (x : Summary). x.tags) h.counts) a) (more_reports c.reports list g.summary.reports s.reports (ap (λ (x : Summary). x.reports) h.counts) b);
}

lines_printed : (c : Course) (tags : List Tree) (text o r : List ℕ) → c.phase ≡ Open → AreReportLines c.form tags text → Moves c (record c { reports = c.reports ++ tags ∷ [] }) o o r (r ++ text)
lines_printed c tags text o r opened are = record {
  messages = [];
  reports = tags ∷ [];
  lines = text;
  sent_are = sym (append-nil c.sent);
  reports_are = refl;
  form_is = refl;
  asides_are = refl;
  frames = adds_none o;
  are = reports_one c.form tags text are;
  printed = ap (λ (x : List ℕ). r ++ x) (sym (append-nil text) ∙ ap (λ (x : List ℕ). text ++ x) (sym (open_text c.form c.phase (c.reports ++ tags ∷ []) opened)));
}

led_here : (a : Awaits) (tags : List Tree) (d : Course) → leads_on a tags ≡ true → send_next d ≡ reported a tags d
led_here Report tags d e = refl
led_here TaggedReport [] d e = cc
led_here TaggedReport (tag ∷ tags) d e = refl
led_here Answer tags d e = cc
led_here End tags d e = cc

-- it was awaited
pub report_leads_on : (c : Course) (g new : Gathering) (tags : List Tree) (text o0 o1 r0 r1 : List ℕ) (answer : Result Bool ToolErr) → Holds c g → c.phase ≡ Open → leads_on g.awaits tags ≡ true → AreReportLines c.form tags text → r1 ≡ r0 ++ text
    → Does (record c { reports = c.reports ++ tags ∷ [] }) (send_next (record c { reports = c.reports ++ tags ∷ [] })) new o0 o1 r1 r1 answer → Does c (after (Tags tags) c) new o0 o1 r0 r1 answer
report_leads_on c g new tags text o0 o1 r0 r1 answer h opened w are printed does =
    let d : Course = record c { reports = c.reports ++ tags ∷ [] } in
    let same : send_next d ≡ reported c.awaits tags d = led_here g.awaits tags d w ∙ ap (λ (a : Awaits). reported a tags d) h.awaits_is in
    let moved : Moves c d o0 o0 r0 r1 = subst (λ (x : List ℕ). Moves c d o0 o0 r0 x) (sym printed) (lines_printed c tags text o0 r0 opened are) in
    subst (λ (e : Course). Does c e new o0 o1 r0 r1 answer) same (does_after c d (send_next d) new o0 o0 o1 r0 r1 r1 answer moved opened does)

held : (a : Awaits) (tags : List Tree) (d : Course) → leads_on a tags ≡ false → d ≡ reported a tags d
held Report tags d e = cc
held TaggedReport [] d e = refl
held TaggedReport (tag ∷ tags) d e = cc
held Answer tags d e = refl
held End tags d e = refl

-- it was not awaited
pub report_passes : (c : Course) (g new : Gathering) (tags : List Tree) (text o r0 r1 : List ℕ) → Holds c g → c.phase ≡ Open → leads_on g.awaits tags ≡ false → AreReportLines c.form tags text → r1 ≡ r0 ++ text
    → Holds (record c { reports = c.reports ++ tags ∷ [] }) new → Does c (after (Tags tags) c) new o o r0 r1 (Ok false)
report_passes c g new tags text o r0 r1 h opened w are printed holds =
    let d : Course = record c { reports = c.reports ++ tags ∷ [] } in
    let same : d ≡ reported c.awaits tags d = held g.awaits tags d w ∙ ap (λ (a : Awaits). reported a tags d) h.awaits_is in
    let moved : Moves c d o o r0 r1 = subst (λ (x : List ℕ). Moves c d o o r0 x) (sym printed) (lines_printed c tags text o r0 opened are) in
    subst (λ (e : Course). Does c e new o o r0 r1 (Ok false)) same (opened, holds, moved)

-- ---- the end of the connection

abbrev pub IsEarlyHere : Awaits → Type 0
IsEarlyHere a = (a ≡ Answer) ⊎ ((a ≡ TaggedReport) ⊎ (a ≡ Report))

early_there : (a : Awaits) → IsEarlyHere a → ended a ≡ Failed Early
early_there a (inl e) = rw e refl
early_there a (inr (inl e)) = rw e refl
early_there a (inr (inr e)) = rw e refl

pub ended_early : (c : Course) (g : Gathering) (o r : List ℕ) → Holds c g → IsEarlyHere g.awaits → Does c (after ConnectionEnded c) g o o r r (Err Early)
ended_early c g o r h w =
    let e : ended c.awaits ≡ Failed Early = ap ended (sym h.awaits_is) ∙ early_there g.awaits w in
    (e, still c (ends (ended c.awaits) c) o r refl refl refl refl (ap (λ (p : Phase). closing_text c.form p c.reports) e))

pub ended_fine : (c : Course) (g : Gathering) (text o r0 r1 : List ℕ) → Holds c g → g.awaits ≡ End → text ≡ total_line c.form c.reports → r1 ≡ r0 ++ text → Does c (after ConnectionEnded c) g o o r0 r1 (Ok true)
ended_fine c g text o r0 r1 h w line printed =
    let e : ended c.awaits ≡ Closed = ap ended (sym h.awaits_is ∙ w) in (
      e,
      h.counts,
      record {
        messages = [];
        reports = [];
        lines = [];
        sent_are = sym (append-nil c.sent);
        reports_are = sym (append-nil c.reports);
        form_is = refl;
        asides_are = refl;
        frames = adds_none o;
        are = reports_none c.form;
        printed = printed ∙ ap (λ (x : List ℕ). r0 ++ x) (line ∙ ap (λ (p : Phase). closing_text c.form p c.reports) (sym e));
      },
    )

pub no_last_line : (c : Course) (g : Gathering) (o r : List ℕ) → Does c (after ConnectionEnded c) g o o r r (Err Memory)
no_last_line c g o r = out_of_memory c (after ConnectionEnded c) o r (after_more ConnectionEnded c)

-- ---- what a message was taken for

-- it is passed over
pub passed : (c : Course) (g : Gathering) (o r : List ℕ) → Holds c g → c.phase ≡ Open → Does c c g o o r r (Ok false)
passed c g o r h opened = (opened, h, still c c o r refl refl refl refl (open_text c.form c.phase c.reports opened))

pub passes : (taken : Taken) (c : Course) → ((id : ℕ) × (state : RoState) × (taken ≡ Event id state)) ⊎ ((taken ≡ Note) ⊎ (taken ≡ Kept)) → c ≡ after taken c
passes taken c (inl e) = rw e.2 refl
passes taken c (inr (inl e)) = rw e refl
passes taken c (inr (inr e)) = rw e refl

pub peer : (c : Course) (g : Gathering) (status : ℕ) (o r : List ℕ) → Does c (ends (Failed (Peer status)) c) g o o r r (Err (Peer status))
peer c g status o r = (refl, still c (ends (Failed (Peer status)) c) o r refl refl refl refl refl)

pub strange : (c : Course) (g : Gathering) (o r : List ℕ) → Does c (ends (Failed Strange) c) g o o r r (Err Strange)
strange c g o r = (refl, still c (ends (Failed Strange) c) o r refl refl refl refl refl)

-- ---- messages

refused_by : (step : Result Taking Refusal) (fault : TakeFault) (c : Course) (g : Gathering) (o r : List ℕ) → IsTakeFault step fault → Does c (after_taking step c) g o o r r (Err (error_by_message fault))
refused_by (Ok taking) tf.Memory c g o r h =
    let d : Course = record c { client = taking.client; sent = c.sent ++ taking.sent } in
    out_of_memory c (after taking.taken d) o r
    (more_more c d (after taking.taken d) (record { messages = taking.sent; reports = []; sent_are = refl; reports_are = sym (append-nil c.reports); form_is = refl; asides_are = refl }) (after_more taking.taken d))
refused_by (Ok taking) tf.Closed c g o r h = cc
refused_by (Ok taking) tf.Unexpected c g o r h = cc
refused_by (Err refusal) tf.Memory c g o r h = cc
refused_by (Err refusal) tf.Closed c g o r h = strange c g o r
refused_by (Err refusal) tf.Unexpected c g o r h = strange c g o r

-- the client refused it
pub message_refused : (c : Course) (g : Gathering) (step own : Result Taking Refusal) (fault : TakeFault) (o r : List ℕ) → own ≡ step → IsTakeFault own fault → Does c (after_taking step c) g o o r r (Err (error_by_message fault))
message_refused c g step own fault o r e h = subst (λ (x : Result Taking Refusal). Does c (after_taking x c) g o o r r (Err (error_by_message fault))) e (refused_by own fault c g o r h)

pub some_of : (a b : List MessageTree) (o0 o1 : List ℕ) → AddsSome a o0 o1 → AddsSome (a ++ b) o0 o1
some_of a b o0 o1 p = record { first = p.first; later = p.later ++ b; parts = ap (λ (x : List MessageTree). x ++ b) p.parts ∙ append_assoc p.first p.later b; adds = p.adds }

-- its answer was appended in part
pub answered_some : (c : Course) (g : Gathering) (step : Result Taking Refusal) (taking : Taking) (messages : List MessageTree) (o0 o1 r : List ℕ) → step ≡ Ok taking → messages ≡ all_said c.asides taking.sent → AddsSome messages o0 o1
    → Does c (after_taking step c) g o0 o1 r r (Err Memory)
answered_some c g step taking messages o0 o1 r e m a =
    let d : Course = record c { client = taking.client; sent = c.sent ++ taking.sent } in
    let more = after_more taking.taken d in
    let frames : AddsSome (all_said c.asides (taking.sent ++ more.messages)) o0 o1 =
    rw (flat_map-append (said_for c.asides) taking.sent more.messages) (some_of (all_said c.asides taking.sent) (all_said c.asides more.messages) o0 o1 (subst (λ (ms : List MessageTree). AddsSome ms o0 o1) m a)) in
    subst (λ (x : Result Taking Refusal). Does c (after_taking x c) g o0 o1 r r (Err Memory)) (sym e)
    (record {
      messages = taking.sent ++ more.messages;
      reports = [];
      later = more.reports;
      lines = [];
      sent_are = more.sent_are ∙ append_assoc c.sent taking.sent more.messages;
      reports_are = more.reports_are;
      form_is = more.form_is;
      asides_are = more.asides_are;
      frames = frames;
      are = reports_none c.form;
      printed = sym (append-nil r);
    })

-- its answer was appended, and it was followed
pub answered_all : (c : Course) (new : Gathering) (step : Result Taking Refusal) (taking : Taking) (messages : List MessageTree) (o0 o1 o2 r0 r1 : List ℕ) (answer : Result Bool ToolErr) → c.phase ≡ Open → step ≡ Ok taking
    → messages ≡ all_said c.asides taking.sent → Adds messages o0 o1
    → Does (record c { client = taking.client; sent = c.sent ++ taking.sent }) (after taking.taken (record c { client = taking.client; sent = c.sent ++ taking.sent })) new o1 o2 r0 r1 answer
    → Does c (after_taking step c) new o0 o2 r0 r1 answer
answered_all c new step taking messages o0 o1 o2 r0 r1 answer opened e m a does =
    let d : Course = record c { client = taking.client; sent = c.sent ++ taking.sent } in
    let moved : Moves c d o0 o1 r0 r0 = record {
      messages = taking.sent;
      reports = [];
      lines = [];
      sent_are = refl;
      reports_are = sym (append-nil c.reports);
      form_is = refl;
      asides_are = refl;
      frames = subst (λ (ms : List MessageTree). Adds ms o0 o1) m a;
      are = reports_none c.form;
      printed = sym (append-nil r0) ∙ ap (λ (x : List ℕ). r0 ++ x) (sym (open_text c.form c.phase c.reports opened));
    } in
    subst (λ (x : Result Taking Refusal). Does c (after_taking x c) new o0 o2 r0 r1 answer) (sym e) (does_after c d (after taking.taken d) new o0 o1 o2 r0 r0 r1 answer moved opened does)

pub taken_in : (c : Course) (g : Gathering) (taking : Taking) → Holds c g → Holds (record c { client = taking.client; sent = c.sent ++ taking.sent }) (record g { client = taking.client })
taken_in c g taking h = record { client_is = refl; form_is = h.form_is; asides_are = h.asides_are; left_is = h.left_is; awaits_is = h.awaits_is; counts = h.counts }

-- ---- frames that are no messages

pub bad_passes : (reason : Reason) (c : Course) → (reason ≡ MessageType) ⊎ (reason ≡ ParamType) → c ≡ after_bad reason c
bad_passes reason c (inl e) = rw e refl
bad_passes reason c (inr e) = rw e refl

pub bad_is_strange : (reason : Reason) (c : Course) → (reason ≡ MessageType → ⊥) → (reason ≡ ParamType → ⊥) → ends (Failed Strange) c ≡ after_bad reason c
bad_is_strange MessageType c p q = absurd (p refl)
bad_is_strange ParamType c p q = absurd (q refl)
bad_is_strange Reserved c p q = refl
bad_is_strange Version c p q = refl
bad_is_strange MessageLength c p q = refl
bad_is_strange Short c p q = refl
bad_is_strange Value c p q = refl
bad_is_strange Count c p q = refl
bad_is_strange Utf8 c p q = refl
bad_is_strange Misplaced c p q = refl
bad_is_strange TooMany c p q = refl
bad_is_strange TooDeep c p q = refl
bad_is_strange ParamLength c p q = refl
bad_is_strange Extra c p q = refl
bad_is_strange Missing c p q = refl
