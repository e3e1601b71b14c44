-- How a client goes on with its plan.
use Rattle.std.proofs.Common.{◌≡◌, ℕ, Bool, true, false, List, [], ◌∷◌, ◌++◌, refl, sym, ap, subst, ◌∙◌, append_assoc, Err, Ok}
use Rattle.std.specs.Prelude.{Result}
use Rattle.std.proofs.lemmas.List.{append-nil}
use Rattle.std.proofs.lemmas.List.Concat.{flat_map-append}
use Rattle.llrp_tree.specs.Tree.{Tree, MessageTree}
use Rattle.llrp_session.specs.declared.types.Command.{Command}
use Rattle.llrp_session.specs.declared.client.refusal.CmdFault.{CmdFault}
use Rattle.llrp_session.specs.declared.client.refusal.CmdFault.TheVariants as cmd
use Rattle.llrp_session.specs.Calls.ClientSteps.{IsCmdFault}
use Rattle.llrp_session.specs.ClientMachine.{Client, Sending, command}
use Rattle.llrp_session.specs.ClientMessages.{client_message}
use Rattle.llrp_endpoints.specs.Asides.{Asides, before, instead, said_for, all_said}
use Rattle.llrp_session.specs.Refusal.{Refusal}
use Rattle.llrp_session.specs.Contents.{ClientMessage}
use Rattle.llrp_listing.specs.declared.outcome.ToolErr.{ToolErr}
use Rattle.llrp_listing.specs.declared.outcome.ToolErr.TheVariants.{Listing, Script, Hex, Read, Write, Bound, Broken, Memory, Peer, Strange, Early}
use Rattle.llrp_endpoints.specs.declared.gathering.Gathering.{Gathering}
use Rattle.llrp_endpoints.specs.declared.gathering.remaining.RemainingCommands.{RemainingCommands}
use Rattle.llrp_endpoints.specs.declared.course.Awaits.TheVariants.{TaggedReport}
use Rattle.llrp_endpoints.specs.declared.course.Phase.{Phase}
use Rattle.llrp_endpoints.specs.declared.course.Phase.TheVariants.{Open, Failed}
use Rattle.llrp_endpoints.specs.declared.course.Step.{Step}
use Rattle.llrp_endpoints.specs.declared.course.Step.TheVariants.{Send, AwaitTags}
use Rattle.llrp_endpoints.specs.declared.form.LineForm.{LineForm}
use Rattle.llrp_endpoints.specs.Sending.{Adds}
use Rattle.llrp_endpoints.specs.Calls.Sending.{AddsSome}
use Rattle.llrp_endpoints.specs.TagLines.{AreReports, AreReportLines}
use Rattle.llrp_endpoints.specs.Gathering.{Course, ends, sends_by, takes_step, steps_on, send_next}
use Rattle.llrp_endpoints.specs.Calls.GatheringStands.{steps_left, Holds, Moves, MovesSome, Stops}
use Rattle.llrp_endpoints.specs.Gathering.{closing_text}
use Rattle.llrp_endpoints.specs.Private.GatheringStands.{Does, error_by_command, awaited_after}
use Rattle.llrp_endpoints.proofs.SendingLemmas.{adds_none, adds_more}
use Rattle.llrp_listing.proofs.Zips.{zip_append}

-- ---- reports one after another

pub reports_none : (f : LineForm) → AreReports f [] []
reports_none f = record { texts = []; each = tt; text_is = refl }

pub reports_append : (f : LineForm) (a b : List (List Tree)) (x y : List ℕ) → AreReports f a x → AreReports f b y → AreReports f (a ++ b) (x ++ y)
reports_append f a b x y p q = record {
  texts = p.texts ++ q.texts;
  each = zip_append (AreReportLines f) a b p.texts q.texts p.each q.each;
  text_is = rw (p.text_is, q.text_is) (sym (flat_map-append (λ (w : List ℕ). w) p.texts q.texts));
}

pub reports_one : (f : LineForm) (tags : List Tree) (text : List ℕ) → AreReportLines f tags text → AreReports f (tags ∷ []) text
reports_one f tags text p = record { texts = text ∷ []; each = (p, tt); text_is = sym (append-nil text) }

-- ---- frames

pub some_none : (ms : List MessageTree) (o : List ℕ) → AddsSome ms o o
some_none ms o = record { first = []; later = ms; parts = refl; adds = adds_none o }

pub some_all : (ms : List MessageTree) (o0 o1 : List ℕ) → Adds ms o0 o1 → AddsSome ms o0 o1
some_all ms o0 o1 p = record { first = ms; later = []; parts = sym (append-nil ms); adds = p }

pub some_more : (a b : List MessageTree) (o0 o1 o2 : List ℕ) → Adds a o0 o1 → AddsSome b o1 o2 → AddsSome (a ++ b) o0 o2
some_more a b o0 o1 o2 p q = record {
  first = a ++ q.first;
  later = q.later;
  parts = ap (λ (ms : List MessageTree). a ++ ms) q.parts ∙ sym (append_assoc a q.first q.later);
  adds = adds_more a q.first o0 o1 o2 p q.adds;
}

-- ---- moves

-- nothing was sent or printed
pub still : (c d : Course) (o r : List ℕ) → d.sent ≡ c.sent → d.reports ≡ c.reports → d.form ≡ c.form → d.asides ≡ c.asides → closing_text c.form d.phase d.reports ≡ [] → Moves c d o o r r
still c d o r s p f a e = record {
  messages = [];
  reports = [];
  lines = [];
  sent_are = s ∙ sym (append-nil c.sent);
  reports_are = p ∙ sym (append-nil c.reports);
  form_is = f;
  asides_are = a;
  frames = adds_none o;
  are = reports_none c.form;
  printed = sym (append-nil r) ∙ ap (λ (x : List ℕ). r ++ x) (sym e);
}

pub open_text : (f : LineForm) (p : Phase) (reports : List (List Tree)) → p ≡ Open → closing_text f p reports ≡ []
open_text f p reports e = rw e refl

pub moves_on : (c d e : Course) (o0 o1 o2 r0 r1 r2 : List ℕ) → Moves c d o0 o1 r0 r1 → d.phase ≡ Open → Moves d e o1 o2 r1 r2 → Moves c e o0 o2 r0 r2
moves_on c d e o0 o1 o2 r0 r1 r2 p opened q =
    let before : r1 ≡ r0 ++ p.lines = p.printed ∙ ap (λ (x : List ℕ). r0 ++ (p.lines ++ x)) (open_text c.form d.phase d.reports opened) ∙ ap (λ (x : List ℕ). r0 ++ x) (append-nil p.lines) in
    let last = closing_text c.form e.phase e.reports in
    let are : AreReports c.form q.reports q.lines = subst (λ (f : LineForm). AreReports f q.reports q.lines) p.form_is q.are in
    let printed : r2 ≡ r1 ++ (q.lines ++ last) = q.printed ∙ ap (λ (f : LineForm). r1 ++ (q.lines ++ closing_text f e.phase e.reports)) p.form_is in
    record {
      messages = p.messages ++ q.messages;
      reports = p.reports ++ q.reports;
      lines = p.lines ++ q.lines;
      sent_are = q.sent_are ∙ ap (λ (x : List ClientMessage). x ++ q.messages) p.sent_are ∙ append_assoc c.sent p.messages q.messages;
      reports_are = q.reports_are ∙ ap (λ (x : List (List Tree)). x ++ q.reports) p.reports_are ∙ append_assoc c.reports p.reports q.reports;
      frames = rw (flat_map-append (said_for c.asides) p.messages q.messages) (adds_more (all_said c.asides p.messages) (all_said c.asides q.messages) o0 o1 o2 p.frames (subst (λ (a : Asides). Adds (all_said a q.messages) o1 o2) p.asides_are q.frames));
      form_is = q.form_is ∙ p.form_is;
      asides_are = q.asides_are ∙ p.asides_are;
      are = reports_append c.form p.reports q.reports p.lines q.lines p.are are;
      printed = printed ∙ ap (λ (x : List ℕ). x ++ (q.lines ++ last)) before ∙ append_assoc r0 p.lines (q.lines ++ last) ∙ ap (λ (x : List ℕ). r0 ++ x) (sym (append_assoc p.lines q.lines last));
    }

pub moves_some : (c d e : Course) (o0 o1 o2 r0 r1 r2 : List ℕ) → Moves c d o0 o1 r0 r1 → d.phase ≡ Open → MovesSome d e o1 o2 r1 r2 → MovesSome c e o0 o2 r0 r2
moves_some c d e o0 o1 o2 r0 r1 r2 p opened q =
    let before : r1 ≡ r0 ++ p.lines = p.printed ∙ ap (λ (x : List ℕ). r0 ++ (p.lines ++ x)) (open_text c.form d.phase d.reports opened) ∙ ap (λ (x : List ℕ). r0 ++ x) (append-nil p.lines) in
    record {
      messages = p.messages ++ q.messages;
      reports = p.reports ++ q.reports;
      later = q.later;
      lines = p.lines ++ q.lines;
      sent_are = q.sent_are ∙ ap (λ (x : List ClientMessage). x ++ q.messages) p.sent_are ∙ append_assoc c.sent p.messages q.messages;
      reports_are = q.reports_are ∙ ap (λ (x : List (List Tree)). x ++ (q.reports ++ q.later)) p.reports_are ∙ append_assoc c.reports p.reports (q.reports ++ q.later)
          ∙ ap (λ (x : List (List Tree)). c.reports ++ x) (sym (append_assoc p.reports q.reports q.later));
      frames = rw (flat_map-append (said_for c.asides) p.messages q.messages) (some_more (all_said c.asides p.messages) (all_said c.asides q.messages) o0 o1 o2 p.frames (subst (λ (a : Asides). AddsSome (all_said a q.messages) o1 o2) p.asides_are q.frames));
      form_is = q.form_is ∙ p.form_is;
      asides_are = q.asides_are ∙ p.asides_are;
      are = reports_append c.form p.reports q.reports p.lines q.lines p.are (subst (λ (f : LineForm). AreReports f q.reports q.lines) p.form_is q.are);
      printed = q.printed ∙ ap (λ (x : List ℕ). x ++ q.lines) before ∙ append_assoc r0 p.lines q.lines;
    }

-- memory ran out before anything was appended
pub none_moved : (c d : Course) (o r : List ℕ) (messages : List ClientMessage) (reports : List (List Tree)) → d.sent ≡ c.sent ++ messages → d.reports ≡ c.reports ++ reports → d.form ≡ c.form → d.asides ≡ c.asides → MovesSome c d o o r r
none_moved c d o r messages reports s p f a = record {
  messages = messages;
  reports = [];
  later = reports;
  lines = [];
  sent_are = s;
  reports_are = p;
  form_is = f;
  asides_are = a;
  frames = some_none (all_said c.asides messages) o;
  are = reports_none c.form;
  printed = sym (append-nil r);
}

-- a step after moves
pub stops_after : (c d e : Course) (o0 o1 o2 r0 r1 r2 : List ℕ) (error : ToolErr) → Moves c d o0 o1 r0 r1 → d.phase ≡ Open → Stops d e o1 o2 r1 r2 error → Stops c e o0 o2 r0 r2 error
stops_after c d e o0 o1 o2 r0 r1 r2 Memory p opened q = moves_some c d e o0 o1 o2 r0 r1 r2 p opened q
stops_after c d e o0 o1 o2 r0 r1 r2 (Peer status) p opened q = (q.0, moves_on c d e o0 o1 o2 r0 r1 r2 p opened q.1)
stops_after c d e o0 o1 o2 r0 r1 r2 Strange p opened q = (q.0, moves_on c d e o0 o1 o2 r0 r1 r2 p opened q.1)
stops_after c d e o0 o1 o2 r0 r1 r2 Early p opened q = (q.0, moves_on c d e o0 o1 o2 r0 r1 r2 p opened q.1)
stops_after c d e o0 o1 o2 r0 r1 r2 Broken p opened q = q
stops_after c d e o0 o1 o2 r0 r1 r2 (Listing line reason) p opened q = q
stops_after c d e o0 o1 o2 r0 r1 r2 (Script line) p opened q = q
stops_after c d e o0 o1 o2 r0 r1 r2 Hex p opened q = q
stops_after c d e o0 o1 o2 r0 r1 r2 Read p opened q = q
stops_after c d e o0 o1 o2 r0 r1 r2 Write p opened q = q
stops_after c d e o0 o1 o2 r0 r1 r2 Bound p opened q = q

pub does_after : (c d e : Course) (g : Gathering) (o0 o1 o2 r0 r1 r2 : List ℕ) (answer : Result Bool ToolErr) → Moves c d o0 o1 r0 r1 → d.phase ≡ Open → Does d e g o1 o2 r1 r2 answer → Does c e g o0 o2 r0 r2 answer
does_after c d e g o0 o1 o2 r0 r1 r2 (Ok false) p opened q = (q.0, q.1, moves_on c d e o0 o1 o2 r0 r1 r2 p opened q.2)
does_after c d e g o0 o1 o2 r0 r1 r2 (Ok true) p opened q = (q.0, q.1, moves_on c d e o0 o1 o2 r0 r1 r2 p opened q.2)
does_after c d e g o0 o1 o2 r0 r1 r2 (Err error) p opened q = stops_after c d e o0 o1 o2 r0 r1 r2 error p opened q

-- ---- what is said besides

said_once : (a : Asides) (m : ClientMessage) → before a m.word ++ instead a.whole (client_message m) ∷ [] ≡ all_said a (m ∷ [])
said_once a m = sym (append-nil (before a m.word ++ instead a.whole (client_message m) ∷ []))

-- ---- the next step

-- no step is left
pub none_left : (c : Course) (g : Gathering) (left : RemainingCommands) (o r : List ℕ) → Holds c g → c.phase ≡ Open → steps_left g.left ≡ [] → steps_left left ≡ [] → Does c (send_next c) (record g { left = left }) o o r r (Ok false)
none_left c g left o r h opened before now =
    let none : c.left ≡ [] = sym h.left_is ∙ before in
    let same : c ≡ send_next c = ap (λ (ks : List Step). steps_on ks c) (sym none) in
    subst (λ (d : Course). Does c d (record g { left = left }) o o r r (Ok false)) same
    (opened, record { client_is = h.client_is; form_is = h.form_is; asides_are = h.asides_are; left_is = now ∙ sym none; awaits_is = h.awaits_is; counts = h.counts }, still c c o r refl refl refl refl (open_text c.form c.phase c.reports opened))

-- the next command is this one
next_is : (c : Course) (client : Client) (k : Command) (left : List Step) → client ≡ c.client → c.left ≡ Send k ∷ left → sends_by (command client k) k left c ≡ send_next c
next_is c client k left e l = ap (λ (a : Client). sends_by (command a k) k left c) e ∙ ap (λ (ks : List Step). steps_on ks c) (sym l)

refused_by : (step : Result Sending Refusal) (fault : CmdFault) (c : Course) (g : Gathering) (k : Command) (left : List Step) (o r : List ℕ) → IsCmdFault step fault → Does c (sends_by step k left c) g o o r r (Err (error_by_command fault))
refused_by (Ok sending) cmd.Memory c g k left o r h = none_moved c (sends_by (Ok sending) k left c) o r (sending.message ∷ []) [] refl (sym (append-nil c.reports)) refl refl
refused_by (Ok sending) cmd.Closed c g k left o r h = cc
refused_by (Ok sending) cmd.NotReady c g k left o r h = cc
refused_by (Ok sending) cmd.Busy c g k left o r h = cc
refused_by (Ok sending) cmd.OverLimit c g k left o r h = cc
refused_by (Ok sending) cmd.IdsSpent c g k left o r h = cc
refused_by (Err refusal) cmd.Memory c g k left o r h = cc
refused_by (Err refusal) cmd.Closed c g k left o r h = (refl, still c (ends (Failed Strange) c) o r refl refl refl refl refl)
refused_by (Err refusal) cmd.NotReady c g k left o r h = (refl, still c (ends (Failed Strange) c) o r refl refl refl refl refl)
refused_by (Err refusal) cmd.Busy c g k left o r h = (refl, still c (ends (Failed Strange) c) o r refl refl refl refl refl)
refused_by (Err refusal) cmd.OverLimit c g k left o r h = (refl, still c (ends (Failed Strange) c) o r refl refl refl refl refl)
refused_by (Err refusal) cmd.IdsSpent c g k left o r h = (refl, still c (ends (Failed Strange) c) o r refl refl refl refl refl)

-- the client refused it
pub refused : (c : Course) (old new : Gathering) (k : Command) (left : List Step) (fault : CmdFault) (o r : List ℕ) → Holds c old → steps_left old.left ≡ Send k ∷ left → IsCmdFault (command old.client k) fault
    → Does c (send_next c) new o o r r (Err (error_by_command fault))
refused c old new k left fault o r h l e =
    subst (λ (d : Course). Does c d new o o r r (Err (error_by_command fault))) (next_is c old.client k left h.client_is (sym h.left_is ∙ l))
    (refused_by (command old.client k) fault c new k left o r e)

sent_one : (c : Course) (old : Gathering) (k : Command) (left : List Step) (sending : Sending) → Holds c old → steps_left old.left ≡ Send k ∷ left → command old.client k ≡ Ok sending → sends_by (Ok sending) k left c ≡ send_next c
sent_one c old k left sending h l e = ap (λ (a : Result Sending Refusal). sends_by a k left c) (sym e) ∙ next_is c old.client k left h.client_is (sym h.left_is ∙ l)

-- its frame was appended in part
pub sent_some : (c : Course) (old new : Gathering) (k : Command) (left : List Step) (sending : Sending) (messages : List MessageTree) (o0 o1 r : List ℕ) → Holds c old → steps_left old.left ≡ Send k ∷ left → command old.client k ≡ Ok sending
    → messages ≡ before c.asides sending.message.word ++ instead c.asides.whole (client_message sending.message) ∷ [] → AddsSome messages o0 o1 → Does c (send_next c) new o0 o1 r r (Err Memory)
sent_some c old new k left sending messages o0 o1 r h l e m a =
    subst (λ (d : Course). Does c d new o0 o1 r r (Err Memory)) (sent_one c old k left sending h l e)
    (record {
      messages = sending.message ∷ [];
      reports = [];
      later = [];
      lines = [];
      sent_are = refl;
      reports_are = sym (append-nil c.reports);
      form_is = refl;
      asides_are = refl;
      frames = subst (λ (ms : List MessageTree). AddsSome ms o0 o1) (m ∙ said_once c.asides sending.message) a;
      are = reports_none c.form;
      printed = sym (append-nil r);
    })

-- it was sent
pub sent_all : (c : Course) (old : Gathering) (new : RemainingCommands) (k : Command) (sending : Sending) (messages : List MessageTree) (o0 o1 r : List ℕ) → Holds c old → c.phase ≡ Open → steps_left old.left ≡ Send k ∷ steps_left new → command old.client k ≡ Ok sending
    → messages ≡ before c.asides sending.message.word ++ instead c.asides.whole (client_message sending.message) ∷ [] → Adds messages o0 o1
    → Does c (send_next c) (record old { left = new; client = sending.client; awaits = awaited_after (Send k) }) o0 o1 r r (Ok false)
sent_all c old new k sending messages o0 o1 r h opened l e m a =
    let g = record old { left = new; client = sending.client; awaits = awaited_after (Send k) } in
    subst (λ (d : Course). Does c d (record old { left = new; client = sending.client; awaits = awaited_after (Send k) }) o0 o1 r r (Ok false)) (sent_one c old k (steps_left new) sending h l e) (
      opened,
      record { client_is = refl; form_is = h.form_is; asides_are = h.asides_are; left_is = refl; awaits_is = refl; counts = h.counts },
      record {
        messages = sending.message ∷ [];
        reports = [];
        lines = [];
        sent_are = refl;
        reports_are = sym (append-nil c.reports);
        form_is = refl;
        asides_are = refl;
        frames = subst (λ (ms : List MessageTree). Adds ms o0 o1) (m ∙ said_once c.asides sending.message) a;
        are = reports_none c.form;
        printed = sym (append-nil r) ∙ ap (λ (x : List ℕ). r ++ x) (sym (open_text c.form c.phase c.reports opened));
      },
    )

-- a step that sends no command awaits a report with a tag
pub sends_none : (step : Step) → ((k : Command) → step ≡ Send k → ⊥) → step ≡ AwaitTags
sends_none (Send k) none = absurd (none k refl)
sends_none AwaitTags none = refl

-- a report with a tag is awaited
pub awaits_tags : (c : Course) (old : Gathering) (new : RemainingCommands) (step : Step) (o r : List ℕ) → Holds c old → c.phase ≡ Open → steps_left old.left ≡ step ∷ steps_left new → step ≡ AwaitTags
    → Does c (send_next c) (record old { left = new; awaits = awaited_after step }) o o r r (Ok false)
awaits_tags c old new step o r h opened l is =
    let next : c.left ≡ AwaitTags ∷ steps_left new = sym h.left_is ∙ l ∙ ap (λ (x : Step). x ∷ steps_left new) is in
    let same : takes_step AwaitTags (steps_left new) c ≡ send_next c = ap (λ (ks : List Step). steps_on ks c) (sym next) in
    let awaits : awaited_after step ≡ TaggedReport = ap awaited_after is in
    subst (λ (d : Course). Does c d (record old { left = new; awaits = awaited_after step }) o o r r (Ok false)) same (
      opened,
      record { client_is = h.client_is; form_is = h.form_is; asides_are = h.asides_are; left_is = refl; awaits_is = awaits; counts = h.counts },
      still c (takes_step AwaitTags (steps_left new) c) o r refl refl refl refl (open_text c.form c.phase c.reports opened),
    )
