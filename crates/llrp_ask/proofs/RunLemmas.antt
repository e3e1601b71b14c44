-- A conversation, turn by turn.
use Rattle.std.proofs.Common.{◌≡◌, ◌⊎◌, ℕ, ◌+◌, ◌^◌, ◌-◌, ◌<◌, ◌≤◌, ◌&&◌, Bool, true, false, List, [], ◌∷◌, ◌++◌, length, Option, Some, None, refl, sym, ap, subst, ◌∙◌, inl, inr, arith, append_assoc, add-zero, add_assoc}
use Rattle.std.specs.Prelude.{map}
use Rattle.std.specs.List.{list_all}
use Rattle.std.specs.Io.KnownBytes.{Keeps}
use Rattle.std.proofs.KnownBytes.{Consumes-kept, Consumes-nil, Consumes-trans}
use Rattle.std.proofs.lemmas.List.{append-nil}
use Rattle.std.proofs.lemmas.List.Folds.{list_all-append}
use Rattle.llrp_schema.specs.declared.kinds.KindSet.TheVariants.{Standard}
use Rattle.llrp_tree.specs.declared.TheConstants.{MAX_LIMIT}
use Rattle.llrp_stream.specs.declared.item.Item.{Item}
use Rattle.llrp_stream.specs.Cuts.{IsPartial}
use Rattle.llrp_stream.specs.Device.{SourceLog, SinkLog, IsFreshSource, Wrote}
use Rattle.llrp_stream.specs.Calls.Device.{CanRead, Took}
use Rattle.llrp_stream.specs.Items.{ItemsSoFarIn}
use Rattle.llrp_stream.proofs.WritingLemmas.{wrote_nothing, wrote_more}
use Rattle.llrp_listing.specs.declared.outcome.ToolErr.{ToolErr}
use Rattle.llrp_listing.specs.declared.outcome.ToolErr.TheVariants.{Early, Read, Broken, Strange}
use Rattle.llrp_listing.specs.StreamListing.{AreTexts, is_message}
use Rattle.llrp_ask.specs.declared.asking.Asking.{Asking}
use Rattle.llrp_ask.specs.declared.asking.Phase.TheVariants.{Waits}
use Rattle.llrp_ask.specs.declared.conversation.Conversation.{Conversation}
use Rattle.llrp_ask.specs.declared.form.Form.{Form}
use Rattle.llrp_ask.specs.declared.step.Wait.{Wait}
use Rattle.llrp_ask.specs.Calls.Asking.{Came, Silence, Course, Event, after, follow, items_of, silences_of}
use Rattle.llrp_ask.specs.Calls.Courses.{course_of}
use Rattle.llrp_ask.specs.Calls.Next.{MayStop}
use Rattle.llrp_ask.specs.Private.Conversations.{Converses, TakesEnd, TakesFrames, TakesPiece, TakesSilence, TakesTurn}
use Rattle.llrp_ask.specs.Calls.Run.{HasRead, MetEnd, ReadFailed, Stops, stopped}
use Rattle.llrp_ask.specs.Calls.Shown.{IsShown}
use Rattle.llrp_ask.proofs.CourseLemmas.{past, follow_past, follow_more, stopped_past, stopped_waits, items_more, items_came, silences_more, silences_came}
use Rattle.llrp_ask.proofs.FrameLemmas.{no_frames, no_texts, texts_more, then_more}

-- ---- reading

unfoldable pub read_nothing : (r : SourceLog) → HasRead r r [] 0
read_nothing r = record { reads = 0; counts = rw (add-zero r.reads, add-zero r.failures) refl; bytes_are = Consumes-nil r.left }

unfoldable pub read_more : (a b c : SourceLog) (xs ys : List ℕ) (m n : ℕ) → HasRead a b xs m → HasRead b c ys n → HasRead a c (xs ++ ys) (m + n)
read_more a b c xs ys m n p q = record {
  reads = p.reads + q.reads;
  counts = q.counts ∙ ap (λ (x : SourceLog). record x { reads = x.reads + q.reads; failures = x.failures + n; left = c.left }) p.counts ∙ rw (add_assoc a.reads p.reads q.reads, add_assoc a.failures m n) refl;
  bytes_are = Consumes-trans a.left b.left c.left xs ys p.bytes_are q.bytes_are;
}

-- ---- courses

-- what is sent next goes after what was sent
course_on : (old new : Asking) (sent out : List ℕ) (more : List Event) (first : Course) (why : Option ToolErr)
    → course_of old sent ≡ first → course_of new out ≡ stopped why (follow more (course_of old [])) → course_of new (sent ++ out) ≡ stopped why (follow more first)
course_on old new sent out more first why before e =
    let begin : past sent (course_of old []) ≡ first = ap (λ (x : List ℕ). course_of old x) (append-nil sent) ∙ before in
    ap (past sent) e ∙ sym (stopped_past sent why (follow more (course_of old []))) ∙ ap (stopped why) (sym (follow_past sent more (course_of old [])) ∙ ap (follow more) begin)

-- ---- the loop

all_so_far : (was : Bool) → was ≡ (was && true)
all_so_far true = refl
all_so_far false = refl

and_and : (a b c : Bool) → ((a && b) && c) ≡ (a && (b && c))
and_and true b c = refl
and_and false b c = refl

pub record Talks (turns : ℕ) (old new : Conversation) (r0 r1 : SourceLog) (w0 w1 p0 p1 : SinkLog) (out : List ℕ) : Type 0 where
  pub so : Converses old new r0 r1 w0 w1 p0 p1
  pub few : so.read.reads + silences_of so.events ≤ turns
  pub empty : out ≡ []

pub talks_none : (c : Conversation) (r : SourceLog) (w p : SinkLog) (out : List ℕ) → c.held.items ≡ [] → out ≡ [] → Talks 0 c c r r w w p p out
unfolding read_nothing
talks_none c r w p out fresh empty = record {
  so = record {
    bytes = [];
    events = [];
    came = subst (λ (x : List ℕ). ItemsSoFarIn Standard MAX_LIMIT x [] c.held.items) (sym (append-nil c.held.items)) (no_frames c.held.items);
    until = r;
    read = read_nothing r;
    why = None;
    stops = (refl, inl (omega (arith, ap (λ (x : List ℕ). length x) fresh)));
    sent = [];
    course = refl;
    said = wrote_nothing w;
    text = [];
    is_text = no_texts c.form;
    shown = wrote_nothing p;
    lawful = all_so_far c.lawful;
    form = refl;
  };
  few = omega arith;
  empty = empty;
}

pub talks_still : (turns : ℕ) (old new : Conversation) (asking : Asking) (r0 r1 : SourceLog) (w0 w1 p0 p1 : SinkLog) (out : List ℕ) → Talks turns old new r0 r1 w0 w1 p0 p1 out → ((sent : List ℕ) → course_of asking sent ≡ course_of new.asking sent)
    → Talks turns old (record new { asking = asking }) r0 r1 w0 w1 p0 p1 out
talks_still turns old new asking r0 r1 w0 w1 p0 p1 out t same = record {
  so = record {
    bytes = t.so.bytes;
    events = t.so.events;
    came = t.so.came;
    until = t.so.until;
    read = t.so.read;
    why = t.so.why;
    stops = t.so.stops;
    sent = t.so.sent;
    course = same t.so.sent ∙ t.so.course;
    said = t.so.said;
    text = t.so.text;
    is_text = t.so.is_text;
    shown = t.so.shown;
    lawful = t.so.lawful;
    form = t.so.form;
  };
  few = t.few;
  empty = t.empty;
}

-- a client that waits was not stopped
pub goes_on : (turns : ℕ) (old new : Conversation) (r0 r1 : SourceLog) (w0 w1 p0 p1 : SinkLog) (out : List ℕ) (wait : Wait) → (t : Talks turns old new r0 r1 w0 w1 p0 p1 out) → new.asking.phase ≡ Waits wait → t.so.why ≡ None
goes_on turns old new r0 r1 w0 w1 p0 p1 out wait t waits =
    stopped_waits t.so.why (follow t.so.events (course_of old.asking [])) wait (sym (ap (λ (c : Course). c.phase) t.so.course) ∙ waits)

pub none_stops : (why : Option ToolErr) (r0 r1 : SourceLog) (rest : List ℕ) → why ≡ None → Stops why r0 r1 rest → (r1 ≡ r0) × IsPartial rest
none_stops why r0 r1 rest e s = subst (λ (o : Option ToolErr). Stops o r0 r1 rest) e s

pub can_read : (turns : ℕ) (old new : Conversation) (r0 r1 : SourceLog) (w0 w1 p0 p1 : SinkLog) (out : List ℕ) (wait : Wait) → Talks turns old new r0 r1 w0 w1 p0 p1 out → new.asking.phase ≡ Waits wait → IsFreshSource r0 → turns < 2 ^ 63 - 1 → CanRead r1
can_read turns old new r0 r1 w0 w1 p0 p1 out wait t waits fresh few =
    let same = (none_stops t.so.why t.so.until r1 new.held.items (goes_on turns old new r0 r1 w0 w1 p0 p1 out wait t waits) t.so.stops).0 in
    let all : r1 ≡ record r0 { reads = r0.reads + t.so.read.reads; failures = r0.failures + silences_of t.so.events; left = t.so.until.left } = same ∙ t.so.read.counts in
    let reads : r1.reads ≡ r0.reads + t.so.read.reads = ap (λ (x : SourceLog). x.reads) all in
    let ends : r1.ends ≡ r0.ends = ap (λ (x : SourceLog). x.ends) all in
    let failures : r1.failures ≡ r0.failures + silences_of t.so.events = ap (λ (x : SourceLog). x.failures) all in
    let one = fresh.reads in
    let two = fresh.ends in
    let three = fresh.failures in
    let four = t.few in
    record { reads = omega arith; ends = omega arith; failures = omega arith }

-- ---- a turn

pub few_more : (turns n m silences all : ℕ) → n + silences ≤ turns → m ≡ 1 → all ≡ silences + 0 → (n + m) + all ≤ turns + 1
few_more turns n m silences all few one e = omega arith

pub few_silent : (turns n m silences all : ℕ) → n + silences ≤ turns → m ≡ 0 → all ≡ silences + 1 → (n + m) + all ≤ turns + 1
few_silent turns n m silences all few none e = omega arith

pub stops_there : (why : Option ToolErr) (r : SourceLog) (rest : List ℕ) → MayStop why rest → Stops why r r rest
stops_there None r rest m = (refl, m)
stops_there (Some Broken) r rest m = (refl, m)
stops_there (Some Strange) r rest m = (refl, m)
stops_there (Some _) r rest m = absurd m

turn_piece : (turns : ℕ) (old mid new : Conversation) (r0 r1 r2 : SourceLog) (w0 w1 w2 p0 p1 p2 : SinkLog) (out : List ℕ) → (t : Talks turns old mid r0 r1 w0 w1 p0 p1 []) → t.so.why ≡ None
    → TakesPiece mid new [] out r1 r2 p1 p2 → new.form ≡ mid.form → Wrote w1 w2 out → Talks (turns + 1) old new r0 r2 w0 w2 p0 p2 []
unfolding read_more
turn_piece turns old mid new r0 r1 r2 w0 w1 w2 p0 p1 p2 out t on took form said =
    let same = (none_stops t.so.why t.so.until r1 mid.held.items on t.so.stops).0 in
    let more = map Came took.took.items in
    let before : course_of mid.asking t.so.sent ≡ follow t.so.events (course_of old.asking []) = t.so.course ∙ ap (λ (w : Option ToolErr). stopped w (follow t.so.events (course_of old.asking []))) on in
    let items : items_of (t.so.events ++ more) ≡ items_of t.so.events ++ took.took.items = items_more t.so.events more ∙ ap (λ (l : List Item). items_of t.so.events ++ l) (items_came took.took.items) in
    let silences : silences_of (t.so.events ++ more) ≡ silences_of t.so.events + 0 = silences_more t.so.events more ∙ ap (λ (n : ℕ). silences_of t.so.events + n) (silences_came took.took.items) in
    let forms : mid.form ≡ old.form = t.so.form in
    let read = read_more r0 t.so.until r2 t.so.bytes took.piece (silences_of t.so.events) 0 t.so.read (subst (λ (r : SourceLog). HasRead r r2 took.piece 0) same took.read) in
    record {
      so = record {
        bytes = t.so.bytes ++ took.piece;
        events = t.so.events ++ more;
        came = subst (λ (l : List Item). ItemsSoFarIn Standard MAX_LIMIT (old.held.items ++ (t.so.bytes ++ took.piece)) l new.held.items) (sym items)
            (subst (λ (x : List ℕ). ItemsSoFarIn Standard MAX_LIMIT x (items_of t.so.events ++ took.took.items) new.held.items) (append_assoc old.held.items t.so.bytes took.piece) (then_more (old.held.items ++ t.so.bytes) mid.held.items took.piece new.held.items (items_of t.so.events) took.took.items t.so.came took.took.came));
        until = r2;
        read = subst (HasRead r0 r2 (t.so.bytes ++ took.piece)) (sym silences) read;
        why = took.took.why;
        stops = stops_there took.took.why r2 new.held.items took.took.stops;
        sent = t.so.sent ++ out;
        course = course_on mid.asking new.asking t.so.sent out more (follow t.so.events (course_of old.asking [])) took.took.why before took.took.course ∙ ap (stopped took.took.why) (sym (follow_more t.so.events more (course_of old.asking [])));
        said = wrote_more w0 w1 w2 t.so.sent out t.so.said said;
        text = t.so.text ++ took.took.text;
        is_text = subst (λ (l : List Item). AreTexts (IsShown old.form) l (t.so.text ++ took.took.text)) (sym items) (texts_more old.form (items_of t.so.events) took.took.items t.so.text took.took.text t.so.is_text (subst (λ (f : Form). AreTexts (IsShown f) took.took.items took.took.text) forms took.took.is_text));
        shown = wrote_more p0 p1 p2 t.so.text took.took.text t.so.shown took.took.written;
        lawful = took.took.lawful ∙ ap (λ (b : Bool). b && list_all is_message took.took.items) t.so.lawful ∙ and_and old.lawful (list_all is_message (items_of t.so.events)) (list_all is_message took.took.items) ∙ ap (λ (b : Bool). old.lawful && b) (sym (list_all-append is_message (items_of t.so.events) took.took.items)) ∙ ap (λ (l : List Item). old.lawful && list_all is_message l) (sym items);
        form = form ∙ forms;
      };
      few = few_more turns t.so.read.reads took.read.reads (silences_of t.so.events) (silences_of (t.so.events ++ more)) t.few took.one silences;
      empty = refl;
    }

turn_silence : (turns : ℕ) (old mid new : Conversation) (r0 r1 r2 : SourceLog) (w0 w1 w2 p0 p1 p2 : SinkLog) (out : List ℕ) → (t : Talks turns old mid r0 r1 w0 w1 p0 p1 []) → t.so.why ≡ None
    → TakesSilence mid new [] out r1 r2 p1 p2 → new.form ≡ mid.form → Wrote w1 w2 out → Talks (turns + 1) old new r0 r2 w0 w2 p0 p2 []
unfolding read_more
turn_silence turns old mid new r0 r1 r2 w0 w1 w2 p0 p1 p2 out t on took form said =
    let on_way = none_stops t.so.why t.so.until r1 mid.held.items on t.so.stops in
    let before : course_of mid.asking t.so.sent ≡ follow t.so.events (course_of old.asking []) = t.so.course ∙ ap (λ (w : Option ToolErr). stopped w (follow t.so.events (course_of old.asking []))) on in
    let items : items_of (t.so.events ++ Silence ∷ []) ≡ items_of t.so.events = items_more t.so.events (Silence ∷ []) ∙ append-nil (items_of t.so.events) in
    let silences : silences_of (t.so.events ++ Silence ∷ []) ≡ silences_of t.so.events + 1 = silences_more t.so.events (Silence ∷ []) in
    let read = read_more r0 t.so.until r2 t.so.bytes [] (silences_of t.so.events) 1 t.so.read (subst (λ (r : SourceLog). HasRead r r2 [] 1) on_way.0 took.read) in
    record {
      so = record {
        bytes = t.so.bytes;
        events = t.so.events ++ Silence ∷ [];
        came = subst (λ (l : List Item). ItemsSoFarIn Standard MAX_LIMIT (old.held.items ++ t.so.bytes) l new.held.items) (sym items) (subst (λ (x : List ℕ). ItemsSoFarIn Standard MAX_LIMIT (old.held.items ++ t.so.bytes) (items_of t.so.events) x) (sym took.keeps.held) t.so.came);
        until = r2;
        read = subst (HasRead r0 r2 t.so.bytes) (sym silences) (subst (λ (x : List ℕ). HasRead r0 r2 x (silences_of t.so.events + 1)) (append-nil t.so.bytes) read);
        why = None;
        stops = (refl, subst IsPartial (sym took.keeps.held) on_way.1);
        sent = t.so.sent ++ out;
        course = course_on mid.asking new.asking t.so.sent out (Silence ∷ []) (follow t.so.events (course_of old.asking [])) None before took.course ∙ sym (follow_more t.so.events (Silence ∷ []) (course_of old.asking []));
        said = wrote_more w0 w1 w2 t.so.sent out t.so.said said;
        text = t.so.text;
        is_text = subst (λ (l : List Item). AreTexts (IsShown old.form) l t.so.text) (sym items) t.so.is_text;
        shown = subst (λ (p : SinkLog). Wrote p0 p t.so.text) (sym took.keeps.shown) t.so.shown;
        lawful = took.keeps.lawful ∙ t.so.lawful ∙ ap (λ (l : List Item). old.lawful && list_all is_message l) (sym items);
        form = form ∙ t.so.form;
      };
      few = few_silent turns t.so.read.reads took.read.reads (silences_of t.so.events) (silences_of (t.so.events ++ Silence ∷ [])) t.few took.none silences;
      empty = refl;
    }

pub end_stops : (error : ToolErr) (r0 r1 : SourceLog) (rest : List ℕ) → ((error ≡ Early) × MetEnd r0 r1) ⊎ ((error ≡ Read) × ReadFailed r0 r1) → IsPartial rest → Stops (Some error) r0 r1 rest
end_stops error r0 r1 rest (inl (e, met)) partial = subst (λ (x : ToolErr). Stops (Some x) r0 r1 rest) (sym e) (met, partial)
end_stops error r0 r1 rest (inr (e, failed)) partial = subst (λ (x : ToolErr). Stops (Some x) r0 r1 rest) (sym e) (failed, partial)

turn_end : (turns : ℕ) (old mid new : Conversation) (r0 r1 r2 : SourceLog) (w0 w1 w2 p0 p1 p2 : SinkLog) (out : List ℕ) → (t : Talks turns old mid r0 r1 w0 w1 p0 p1 []) → t.so.why ≡ None
    → TakesEnd mid new [] out r1 r2 p1 p2 → new.form ≡ mid.form → Wrote w1 w2 out → Talks (turns + 1) old new r0 r2 w0 w2 p0 p2 []
turn_end turns old mid new r0 r1 r2 w0 w1 w2 p0 p1 p2 out t on took form said =
    let on_way = none_stops t.so.why t.so.until r1 mid.held.items on t.so.stops in
    let before : course_of mid.asking t.so.sent ≡ follow t.so.events (course_of old.asking []) = t.so.course ∙ ap (λ (w : Option ToolErr). stopped w (follow t.so.events (course_of old.asking []))) on in
    record {
      so = record {
        bytes = t.so.bytes;
        events = t.so.events;
        came = subst (λ (x : List ℕ). ItemsSoFarIn Standard MAX_LIMIT (old.held.items ++ t.so.bytes) (items_of t.so.events) x) (sym took.keeps.held) t.so.came;
        until = t.so.until;
        read = t.so.read;
        why = Some took.error;
        stops = subst (λ (r : SourceLog). Stops (Some took.error) r r2 new.held.items) on_way.0 (end_stops took.error r1 r2 new.held.items took.why (subst IsPartial (sym took.keeps.held) on_way.1));
        sent = t.so.sent ++ out;
        course = course_on mid.asking new.asking t.so.sent out [] (follow t.so.events (course_of old.asking [])) (Some took.error) before took.course;
        said = wrote_more w0 w1 w2 t.so.sent out t.so.said said;
        text = t.so.text;
        is_text = t.so.is_text;
        shown = subst (λ (p : SinkLog). Wrote p0 p t.so.text) (sym took.keeps.shown) t.so.shown;
        lawful = took.keeps.lawful ∙ t.so.lawful;
        form = form ∙ t.so.form;
      };
      few = omega (arith, t.few);
      empty = refl;
    }

pub turn : (turns : ℕ) (old mid new : Conversation) (r0 r1 r2 : SourceLog) (w0 w1 w2 p0 p1 p2 : SinkLog) (was out : List ℕ) → (t : Talks turns old mid r0 r1 w0 w1 p0 p1 was) → t.so.why ≡ None
    → TakesTurn mid new was out r1 r2 p1 p2 → new.form ≡ mid.form → Wrote w1 w2 out → Talks (turns + 1) old new r0 r2 w0 w2 p0 p2 []
turn turns old mid new r0 r1 r2 w0 w1 w2 p0 p1 p2 was out t on took form said =
    let empty = t.empty in
    let t' : Talks turns old mid r0 r1 w0 w1 p0 p1 [] = record { so = t.so; few = t.few; empty = refl } in
    let took' : TakesTurn mid new [] out r1 r2 p1 p2 = subst (λ (x : List ℕ). TakesTurn mid new x out r1 r2 p1 p2) empty took in
    elim took' [
      | inl piece ↦ turn_piece turns old mid new r0 r1 r2 w0 w1 w2 p0 p1 p2 out t' on piece form said
      | inr (inl silence) ↦ turn_silence turns old mid new r0 r1 r2 w0 w1 w2 p0 p1 p2 out t' on silence form said
      | inr (inr end) ↦ turn_end turns old mid new r0 r1 r2 w0 w1 w2 p0 p1 p2 out t' on end form said
    ]

-- ---- what one read makes

pub ends_turn : (old : Conversation) (asking : Asking) (out : List ℕ) (r0 r1 : SourceLog) (p : SinkLog) → Took r0 r1 [] → course_of asking out ≡ stopped (Some Early) (course_of old.asking out) → TakesTurn old (record old { asking = asking }) out out r0 r1 p p
ends_turn old asking out r0 r1 p took course = inr (inr (record {
  error = Early;
  why = inl (refl, record { counts = took.0; bytes_are = took.1; all = took.2 });
  course = course;
  keeps = record { held = refl; lawful = refl; shown = refl };
}))

pub fails_turn : (old : Conversation) (asking : Asking) (out : List ℕ) (r0 r1 : SourceLog) (p : SinkLog) → r1 ≡ record r0 { failures = r0.failures + 1; left = r1.left } → Keeps r0.left r1.left → course_of asking out ≡ stopped (Some Read) (course_of old.asking out)
    → TakesTurn old (record old { asking = asking }) out out r0 r1 p p
fails_turn old asking out r0 r1 p counts keeps course = inr (inr (record {
  error = Read;
  why = inr (refl, record { counts = counts; bytes_are = Consumes-kept r0.left r0.left r1.left [] (Consumes-nil r0.left) keeps });
  course = course;
  keeps = record { held = refl; lawful = refl; shown = refl };
}))

pub silent_turn : (old : Conversation) (asking : Asking) (out0 out1 : List ℕ) (r0 r1 : SourceLog) (p : SinkLog) → r1 ≡ record r0 { failures = r0.failures + 1; left = r1.left } → Keeps r0.left r1.left → course_of asking out1 ≡ after Silence (course_of old.asking out0)
    → TakesTurn old (record old { asking = asking }) out0 out1 r0 r1 p p
silent_turn old asking out0 out1 r0 r1 p counts keeps course = inr (inl (record {
  read = record { reads = 0; counts = rw (add-zero r0.reads) counts; bytes_are = Consumes-kept r0.left r0.left r1.left [] (Consumes-nil r0.left) keeps };
  none = refl;
  course = course;
  keeps = record { held = refl; lawful = refl; shown = refl };
}))

pub read_some : (r0 r1 : SourceLog) (piece : List ℕ) → 0 < length piece → Took r0 r1 piece → (read : HasRead r0 r1 piece 0) × (read.reads ≡ 1)
read_some r0 r1 [] some took = absurd (omega (arith, some))
read_some r0 r1 (b ∷ piece) some took = (record { reads = 1; counts = rw (add-zero r0.failures) took.0; bytes_are = took.1 }, refl)

pub piece_turn : (old new : Conversation) (out0 out1 : List ℕ) (r0 r1 : SourceLog) (p0 p1 : SinkLog) (piece : List ℕ) → 0 < length piece → Took r0 r1 piece → TakesFrames (old.held.items ++ piece) old new out0 out1 p0 p1 → TakesTurn old new out0 out1 r0 r1 p0 p1
piece_turn old new out0 out1 r0 r1 p0 p1 piece some took frames =
    let read = read_some r0 r1 piece some took in
    inl (record { piece = piece; read = read.0; one = read.1; took = frames })

-- ---- a turn of the loop

begun : (turns : ℕ) (old mid : Conversation) (asking : Asking) (r0 r1 r2 : SourceLog) (w0 w1 p0 p1 : SinkLog) (out : List ℕ) → Talks turns old mid r0 r1 w0 w1 p0 p1 out → ((sent : List ℕ) → course_of asking sent ≡ course_of mid.asking sent) → r2 ≡ r1
    → Talks turns old (record mid { asking = asking }) r0 r2 w0 w1 p0 p1 out
begun turns old mid asking r0 r1 r2 w0 w1 p0 p1 out t same log = subst (λ (r : SourceLog). Talks turns old (record mid { asking = asking }) r0 r w0 w1 p0 p1 out) (sym log) (talks_still turns old mid asking r0 r1 w0 w1 p0 p1 out t same)

pub may_read : (turns : ℕ) (old mid : Conversation) (asking : Asking) (r0 r1 r2 : SourceLog) (w0 w1 p0 p1 : SinkLog) (out : List ℕ) (wait : Wait) → Talks turns old mid r0 r1 w0 w1 p0 p1 out → ((sent : List ℕ) → course_of asking sent ≡ course_of mid.asking sent) → r2 ≡ r1
    → asking.phase ≡ Waits wait → IsFreshSource r0 → turns < 2 ^ 63 - 1 → CanRead r2
may_read turns old mid asking r0 r1 r2 w0 w1 p0 p1 out wait t same log waits fresh few =
    can_read turns old (record mid { asking = asking }) r0 r2 w0 w1 p0 p1 out wait (begun turns old mid asking r0 r1 r2 w0 w1 p0 p1 out t same log) waits fresh few

pub next_turn : (turns : ℕ) (old mid new : Conversation) (asking : Asking) (r0 r1 r2 r3 : SourceLog) (w0 w1 w2 p0 p1 p2 : SinkLog) (was out left : List ℕ) (wait : Wait) → Talks turns old mid r0 r1 w0 w1 p0 p1 was → ((sent : List ℕ) → course_of asking sent ≡ course_of mid.asking sent) → r2 ≡ r1
    → asking.phase ≡ Waits wait → TakesTurn (record mid { asking = asking }) new was out r2 r3 p1 p2 → new.form ≡ mid.form → Wrote w1 w2 out → left ≡ [] → Talks (turns + 1) old new r0 r3 w0 w2 p0 p2 left
next_turn turns old mid new asking r0 r1 r2 r3 w0 w1 w2 p0 p1 p2 was out left wait t same log waits took form said empty =
    let next = begun turns old mid asking r0 r1 r2 w0 w1 p0 p1 was t same log in
    let on = goes_on turns old (record mid { asking = asking }) r0 r2 w0 w1 p0 p1 was wait next waits in
    subst (λ (x : List ℕ). Talks (turns + 1) old new r0 r3 w0 w2 p0 p2 x) (sym empty) (turn turns old (record mid { asking = asking }) new r0 r2 r3 w0 w1 w2 p0 p1 p2 was out next on took form said)

pub ended : (turns : ℕ) (old mid : Conversation) (asking : Asking) (r0 r1 r2 : SourceLog) (w0 w1 p0 p1 : SinkLog) (out : List ℕ) → Talks turns old mid r0 r1 w0 w1 p0 p1 out → ((sent : List ℕ) → course_of asking sent ≡ course_of mid.asking sent) → r2 ≡ r1
    → Converses old (record mid { asking = asking }) r0 r2 w0 w1 p0 p1
ended turns old mid asking r0 r1 r2 w0 w1 p0 p1 out t same log = (begun turns old mid asking r0 r1 r2 w0 w1 p0 p1 out t same log).so
