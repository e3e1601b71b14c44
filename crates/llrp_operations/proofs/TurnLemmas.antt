-- A conversation, turn by turn.
use Rattle.std.proofs.Common.{◌≡◌, ℕ, ◌+◌, ◌^◌, ◌-◌, ◌<◌, ◌≤◌, Bool, true, false, List, [], ◌∷◌, ◌++◌, length, Option, Some, None, refl, sym, ap, subst, ◌∙◌, inl, inr, arith, append_assoc, add-zero}
use Rattle.std.specs.Prelude.{map, unwrap_or}
use Rattle.std.specs.Io.KnownBytes.{Consumes, Keeps as KeepsBytes}
use Rattle.std.proofs.KnownBytes.{Consumes-kept, Consumes-nil}
use Rattle.std.proofs.lemmas.List.{append-nil}
use Rattle.llrp_schema.specs.declared.kinds.KindSet.TheVariants.{Standard}
use Rattle.llrp_tree.specs.declared.TheConstants.{MAX_LIMIT}
use Rattle.llrp_stream.specs.declared.item.Item.{Item}
use Rattle.llrp_stream.specs.Cuts.{IsPartial}
use Rattle.llrp_stream.specs.Device.{SourceLog, SinkLog, IsFreshSink, IsFreshSource, Wrote}
use Rattle.llrp_stream.specs.Calls.Device.{CanRead, CanWrite, Took}
use Rattle.llrp_stream.specs.Items.{ItemsSoFarIn}
use Rattle.llrp_stream.proofs.WritingLemmas.{same_failures, wrote_nothing}
use Rattle.llrp_listing.specs.declared.outcome.ToolErr.{ToolErr}
use Rattle.llrp_listing.specs.declared.outcome.ToolErr.TheVariants.{Broken, Early, Read, Strange}
use Rattle.llrp_ask.specs.Calls.Asking.{Came, Silence, Event, items_of, silences_of}
use Rattle.llrp_ask.specs.Calls.Run.{HasRead, Stops}
use Rattle.llrp_ask.proofs.CourseLemmas.{items_more, items_came, silences_more, silences_came}
use Rattle.llrp_ask.proofs.FrameLemmas.{no_frames, then_more}
use Rattle.llrp_ask.proofs.RunLemmas.{end_stops, few_more, few_silent, none_stops, read_more, read_nothing, read_some, stops_there}
use Rattle.llrp_operations.specs.declared.conversation.Conversation.{Conversation}
use Rattle.llrp_operations.specs.declared.request.Request.{Request}
use Rattle.llrp_operations.specs.declared.talk.AccessErr.{AccessErr}
use Rattle.llrp_operations.specs.declared.talk.Talked.{Talked}
use Rattle.llrp_operations.specs.Calls.Course.{may_have_changed, outcome, stands}
use Rattle.llrp_operations.specs.Calls.Talking.{Fails, IsSent, Sends, Talk, Talks, cut_off, first_talk, follow, step, stopped}
use Rattle.llrp_operations.specs.Private.Conversations.{Begins, BreaksOff, Converses, EndsAs, FailsTurn, IsLostBy, PassesOn, ReadsOn, TakesEnd, TakesFrames, TakesNothing, TakesPiece, TakesSilence, TakesTurn, talk_of}
use Rattle.llrp_operations.proofs.ConversationLemmas.{said_in}
use Rattle.llrp_operations.proofs.TalkLemmas.{cut_may, cut_report, follow_more, sends_more, sent_alone, sent_more, stands_reading, stands_written, stopped_may, stopped_report}

-- ---- what one read makes

-- nothing more was read
reads_none : (r0 r1 : SourceLog) → r1 ≡ r0 → ReadsOn r0 r1
reads_none r0 r1 same = ([], subst (λ (r : SourceLog). Consumes r0.left r.left []) (sym same) (Consumes-nil r0.left))

-- reading failed
pub late_reads : (r0 r1 : SourceLog) → KeepsBytes r0.left r1.left → ReadsOn r0 r1
late_reads r0 r1 keeps = ([], Consumes-kept r0.left r0.left r1.left [] (Consumes-nil r0.left) keeps)

-- octets came
pub piece_reads : (r0 r1 : SourceLog) (piece : List ℕ) → Took r0 r1 piece → ReadsOn r0 r1
piece_reads r0 r1 [] took = ([], took.1)
piece_reads r0 r1 (b ∷ bs) took = (b ∷ bs, took.1)

pub ends_turn : (old new : Conversation) (out : List ℕ) (r0 r1 : SourceLog) → Took r0 r1 [] → IsLostBy Early old new → TakesTurn old new out out r0 r1
ends_turn old new out r0 r1 took lost = inr (inr (record {
  error = Early;
  why = inl (refl, record { counts = took.0; bytes_are = took.1; all = took.2 });
  lost = lost;
  out = refl;
}))

pub fails_turn : (old new : Conversation) (out : List ℕ) (r0 r1 : SourceLog) → r1 ≡ record r0 { failures = r0.failures + 1; left = r1.left } → KeepsBytes r0.left r1.left → IsLostBy Read old new → TakesTurn old new out out r0 r1
fails_turn old new out r0 r1 counts keeps lost = inr (inr (record {
  error = Read;
  why = inr (refl, record { counts = counts; bytes_are = Consumes-kept r0.left r0.left r1.left [] (Consumes-nil r0.left) keeps });
  lost = lost;
  out = refl;
}))

pub silent_turn : (old new : Conversation) (out0 out1 : List ℕ) (r0 r1 : SourceLog) → r1 ≡ record r0 { failures = r0.failures + 1; left = r1.left } → KeepsBytes r0.left r1.left → TakesSilence old new out0 out1 → TakesTurn old new out0 out1 r0 r1
silent_turn old new out0 out1 r0 r1 counts keeps took = inr (inl (record {
  read = record { reads = 0; counts = rw (add-zero r0.reads) counts; bytes_are = Consumes-kept r0.left r0.left r1.left [] (Consumes-nil r0.left) keeps };
  none = refl;
  took = took;
}))

pub piece_turn : (old new : Conversation) (out0 out1 : List ℕ) (r0 r1 : SourceLog) (piece : List ℕ) → 0 < length piece → Took r0 r1 piece → TakesFrames (old.held.items ++ piece) old new out0 out1 → TakesTurn old new out0 out1 r0 r1
piece_turn old new out0 out1 r0 r1 piece some took frames =
    let read = read_some r0 r1 piece some took in
    inl (record { piece = piece; read = read.0; one = read.1; took = frames })

-- ---- the loop

pub record Turns (turns : ℕ) (old new : Conversation) (r0 r1 : SourceLog) (w0 w1 : SinkLog) (out : List ℕ) : Type 0 where
  pub so : Converses old new r0 r1 w0 w1
  pub few : so.read.reads + silences_of so.events ≤ turns
  pub empty : so.failed ≡ false → out ≡ []

pub no_turns : (c : Conversation) (r : SourceLog) (w : SinkLog) (out : List ℕ) → c.held.items ≡ [] → out ≡ [] → Turns 0 c c r r w w out
unfolding read_nothing
no_turns c r w out fresh empty = record {
  so = record {
    bytes = [];
    events = [];
    came = subst (λ (x : List ℕ). ItemsSoFarIn Standard MAX_LIMIT x [] c.held.items) (sym (append-nil c.held.items)) (no_frames c.held.items);
    until = r;
    read = read_nothing r;
    why = None;
    stops = (refl, inl (omega (arith, ap (λ (x : List ℕ). length x) fresh)));
    octets = [];
    sent = refl;
    failed = false;
    sends = wrote_nothing w;
    talk = refl;
    request = refl;
  };
  few = omega arith;
  empty = λ e. empty;
}

-- a connection that stands: nothing stopped it, and all was written
pub record OnWay (old new : Conversation) (r0 r1 : SourceLog) (w0 w1 : SinkLog) (so : Converses old new r0 r1 w0 w1) : Type 0 where
  pub written : so.failed ≡ false
  pub reading : so.why ≡ None
  pub talk : talk_of new ≡ follow old.request.id so.events (talk_of old)
  pub same : r1 ≡ so.until
  pub partial : IsPartial new.held.items
  pub wrote : Wrote w0 w1 so.octets

on_way : (old new : Conversation) (r0 r1 : SourceLog) (w0 w1 : SinkLog) (so : Converses old new r0 r1 w0 w1) → stands new.course.stage ≡ true → OnWay old new r0 r1 w0 w1 so
on_way old new r0 r1 w0 w1 so is =
    let end = follow old.request.id so.events (talk_of old) in
    let was : stands (cut_off so.failed (stopped so.why end)).course.stage ≡ true = sym (ap (λ (t : Talk). stands t.course.stage) so.talk) ∙ is in
    let written = stands_written so.failed (stopped so.why end) was in
    let before : stands (stopped so.why end).course.stage ≡ true = sym (ap (λ (b : Bool). stands (cut_off b (stopped so.why end)).course.stage) written) ∙ was in
    let reading = stands_reading so.why end before in
    let stops = none_stops so.why so.until r1 new.held.items reading so.stops in
    record {
      written = written;
      reading = reading;
      talk = so.talk ∙ ap (λ (b : Bool). cut_off b (stopped so.why end)) written ∙ ap (λ (w : Option ToolErr). stopped w end) reading;
      same = stops.0;
      partial = stops.1;
      wrote = subst (λ (b : Bool). Sends b w0 w1 so.octets) written so.sends;
    }

pub may_read : (turns : ℕ) (old new : Conversation) (r0 r1 r2 : SourceLog) (w0 w1 : SinkLog) (out : List ℕ) → Turns turns old new r0 r1 w0 w1 out → stands new.course.stage ≡ true → r2 ≡ r1 → IsFreshSource r0 → turns < 2 ^ 63 - 1 → CanRead r2
may_read turns old new r0 r1 r2 w0 w1 out t is log fresh few =
    let way = on_way old new r0 r1 w0 w1 t.so is in
    let all : r2 ≡ record r0 { reads = r0.reads + t.so.read.reads; failures = r0.failures + silences_of t.so.events; left = t.so.until.left } = log ∙ way.same ∙ t.so.read.counts in
    let reads : r2.reads ≡ r0.reads + t.so.read.reads = ap (λ (x : SourceLog). x.reads) all in
    let ends : r2.ends ≡ r0.ends = ap (λ (x : SourceLog). x.ends) all in
    let failures : r2.failures ≡ r0.failures + silences_of t.so.events = ap (λ (x : SourceLog). x.failures) all in
    let one = fresh.reads in
    let two = fresh.ends in
    let three = fresh.failures in
    let four = t.few in
    record { reads = omega arith; ends = omega arith; failures = omega arith }

pub may_write : (turns : ℕ) (old new : Conversation) (r0 r1 : SourceLog) (w0 w1 : SinkLog) (out : List ℕ) → Turns turns old new r0 r1 w0 w1 out → stands new.course.stage ≡ true → IsFreshSink w0 → CanWrite w1
may_write turns old new r0 r1 w0 w1 out t is fresh =
    let way = on_way old new r0 r1 w0 w1 t.so is in
    let same = same_failures w0 w1 t.so.octets way.wrote in
    omega (arith, same, fresh)

-- ---- a turn

passed : (mid new : Conversation) (out0 out1 : List ℕ) (w0 w1 : SinkLog) (t : Talk) → (p : PassesOn mid new out0 out1 w0 w1) → talk_of mid ≡ t → talk_of new ≡ cut_off p.failed t
passed mid new out0 out1 w0 w1 t p e = p.talk ∙ ap (cut_off p.failed) e

turn_piece : (turns : ℕ) (old mid next new : Conversation) (r0 r1 r2 : SourceLog) (w0 w1 w2 : SinkLog) (out left : List ℕ) → (t : Turns turns old mid r0 r1 w0 w1 []) → OnWay old mid r0 r1 w0 w1 t.so
    → TakesPiece mid next [] out r1 r2 → PassesOn next new out left w1 w2 → Turns (turns + 1) old new r0 r2 w0 w2 left
unfolding read_more
turn_piece turns old mid next new r0 r1 r2 w0 w1 w2 out left t way p pass =
    let took = p.took in
    let more = map Came took.items in
    let end = follow old.request.id t.so.events (talk_of old) in
    let items : items_of (t.so.events ++ more) ≡ items_of t.so.events ++ took.items = items_more t.so.events more ∙ ap (λ (l : List Item). items_of t.so.events ++ l) (items_came took.items) in
    let silences : silences_of (t.so.events ++ more) ≡ silences_of t.so.events + 0 = silences_more t.so.events more ∙ ap (λ (n : ℕ). silences_of t.so.events + n) (silences_came took.items) in
    let read = read_more r0 t.so.until r2 t.so.bytes p.piece (silences_of t.so.events) 0 t.so.read (subst (λ (r : SourceLog). HasRead r r2 p.piece 0) way.same p.read) in
    let sent : IsSent old.request more end took.sent = subst (λ (x : Talk). IsSent old.request more x took.sent) way.talk (subst (λ (x : Request). IsSent x more (talk_of mid) took.sent) t.so.request took.is_sent) in
    let talk : talk_of next ≡ stopped took.why (follow old.request.id (t.so.events ++ more) (talk_of old)) =
    took.talk ∙ ap (λ (x : Request). stopped took.why (follow x.id more (talk_of mid))) t.so.request ∙ ap (λ (x : Talk). stopped took.why (follow old.request.id more x)) way.talk ∙ ap (stopped took.why) (sym (follow_more old.request.id t.so.events more (talk_of old))) in
    record {
      so = record {
        bytes = t.so.bytes ++ p.piece;
        events = t.so.events ++ more;
        came = subst (λ (x : List ℕ). ItemsSoFarIn Standard MAX_LIMIT (old.held.items ++ (t.so.bytes ++ p.piece)) (items_of (t.so.events ++ more)) x) (sym pass.keeps.held)
            (subst (λ (l : List Item). ItemsSoFarIn Standard MAX_LIMIT (old.held.items ++ (t.so.bytes ++ p.piece)) l next.held.items) (sym items)
            (subst (λ (x : List ℕ). ItemsSoFarIn Standard MAX_LIMIT x (items_of t.so.events ++ took.items) next.held.items) (append_assoc old.held.items t.so.bytes p.piece) (then_more (old.held.items ++ t.so.bytes) mid.held.items p.piece next.held.items (items_of t.so.events) took.items t.so.came took.came)));
        until = r2;
        read = subst (HasRead r0 r2 (t.so.bytes ++ p.piece)) (sym silences) read;
        why = took.why;
        stops = subst (Stops took.why r2 r2) (sym pass.keeps.held) (stops_there took.why r2 next.held.items took.stops);
        octets = t.so.octets ++ took.sent;
        sent = sent_more old.request t.so.events more (talk_of old) t.so.octets took.sent t.so.sent sent;
        failed = pass.failed;
        sends = sends_more pass.failed w0 w1 w2 t.so.octets took.sent way.wrote (subst (Sends pass.failed w1 w2) took.out pass.sends);
        talk = passed next new out left w1 w2 (stopped took.why (follow old.request.id (t.so.events ++ more) (talk_of old))) pass talk;
        request = pass.keeps.request ∙ took.request ∙ t.so.request;
      };
      few = few_more turns t.so.read.reads p.read.reads (silences_of t.so.events) (silences_of (t.so.events ++ more)) t.few p.one silences;
      empty = pass.emptied;
    }

turn_silence : (turns : ℕ) (old mid next new : Conversation) (r0 r1 r2 : SourceLog) (w0 w1 w2 : SinkLog) (out left : List ℕ) → (t : Turns turns old mid r0 r1 w0 w1 []) → OnWay old mid r0 r1 w0 w1 t.so
    → TakesNothing mid next [] out r1 r2 → PassesOn next new out left w1 w2 → Turns (turns + 1) old new r0 r2 w0 w2 left
unfolding read_more
turn_silence turns old mid next new r0 r1 r2 w0 w1 w2 out left t way p pass =
    let took = p.took in
    let more : List Event = Silence ∷ [] in
    let end = follow old.request.id t.so.events (talk_of old) in
    let held : new.held.items ≡ mid.held.items = pass.keeps.held ∙ took.keeps.held in
    let items : items_of (t.so.events ++ more) ≡ items_of t.so.events = items_more t.so.events more ∙ append-nil (items_of t.so.events) in
    let silences : silences_of (t.so.events ++ more) ≡ silences_of t.so.events + 1 = silences_more t.so.events more in
    let read = read_more r0 t.so.until r2 t.so.bytes [] (silences_of t.so.events) 1 t.so.read (subst (λ (r : SourceLog). HasRead r r2 [] 1) way.same p.read) in
    let said = said_in old.request mid.request (talk_of mid) end Silence took.octets t.so.request way.talk took.said in
    let talk : talk_of next ≡ follow old.request.id (t.so.events ++ more) (talk_of old) =
    took.talk ∙ ap (λ (x : Request). step x.id Silence (talk_of mid)) t.so.request ∙ ap (step old.request.id Silence) way.talk ∙ sym (follow_more old.request.id t.so.events more (talk_of old)) in
    record {
      so = record {
        bytes = t.so.bytes;
        events = t.so.events ++ more;
        came = subst (λ (l : List Item). ItemsSoFarIn Standard MAX_LIMIT (old.held.items ++ t.so.bytes) l new.held.items) (sym items) (subst (λ (x : List ℕ). ItemsSoFarIn Standard MAX_LIMIT (old.held.items ++ t.so.bytes) (items_of t.so.events) x) (sym held) t.so.came);
        until = r2;
        read = subst (HasRead r0 r2 t.so.bytes) (sym silences) (subst (λ (x : List ℕ). HasRead r0 r2 x (silences_of t.so.events + 1)) (append-nil t.so.bytes) read);
        why = None;
        stops = (refl, subst IsPartial (sym held) way.partial);
        octets = t.so.octets ++ took.octets;
        sent = sent_more old.request t.so.events more (talk_of old) t.so.octets took.octets t.so.sent (sent_alone old.request Silence end took.octets said);
        failed = pass.failed;
        sends = sends_more pass.failed w0 w1 w2 t.so.octets took.octets way.wrote (subst (Sends pass.failed w1 w2) took.out pass.sends);
        talk = passed next new out left w1 w2 (follow old.request.id (t.so.events ++ more) (talk_of old)) pass talk;
        request = pass.keeps.request ∙ took.keeps.request ∙ t.so.request;
      };
      few = few_silent turns t.so.read.reads p.read.reads (silences_of t.so.events) (silences_of (t.so.events ++ more)) t.few p.none silences;
      empty = pass.emptied;
    }

turn_end : (turns : ℕ) (old mid next new : Conversation) (r0 r1 r2 : SourceLog) (w0 w1 w2 : SinkLog) (out left : List ℕ) → (t : Turns turns old mid r0 r1 w0 w1 []) → OnWay old mid r0 r1 w0 w1 t.so
    → TakesEnd mid next [] out r1 r2 → PassesOn next new out left w1 w2 → Turns (turns + 1) old new r0 r2 w0 w2 left
turn_end turns old mid next new r0 r1 r2 w0 w1 w2 out left t way p pass =
    let end = follow old.request.id t.so.events (talk_of old) in
    let held : new.held.items ≡ mid.held.items = pass.keeps.held ∙ p.lost.keeps.held in
    let talk : talk_of next ≡ stopped (Some p.error) end = p.lost.talk ∙ ap (stopped (Some p.error)) way.talk in
    record {
      so = record {
        bytes = t.so.bytes;
        events = t.so.events;
        came = subst (λ (x : List ℕ). ItemsSoFarIn Standard MAX_LIMIT (old.held.items ++ t.so.bytes) (items_of t.so.events) x) (sym held) t.so.came;
        until = t.so.until;
        read = t.so.read;
        why = Some p.error;
        stops = subst (λ (r : SourceLog). Stops (Some p.error) r r2 new.held.items) way.same (end_stops p.error r1 r2 new.held.items p.why (subst IsPartial (sym held) way.partial));
        octets = t.so.octets ++ [];
        sent = subst (IsSent old.request t.so.events (talk_of old)) (sym (append-nil t.so.octets)) t.so.sent;
        failed = pass.failed;
        sends = sends_more pass.failed w0 w1 w2 t.so.octets [] way.wrote (subst (Sends pass.failed w1 w2) p.out pass.sends);
        talk = passed next new out left w1 w2 (stopped (Some p.error) end) pass talk;
        request = pass.keeps.request ∙ p.lost.keeps.request ∙ t.so.request;
      };
      few = omega (arith, t.few);
      empty = pass.emptied;
    }

pub next_turn : (turns : ℕ) (old mid next new : Conversation) (r0 r1 r2 r3 : SourceLog) (w0 w1 w2 : SinkLog) (was out left : List ℕ) → Turns turns old mid r0 r1 w0 w1 was → stands mid.course.stage ≡ true → r2 ≡ r1
    → TakesTurn mid next was out r2 r3 → PassesOn next new out left w1 w2 → Turns (turns + 1) old new r0 r3 w0 w2 left
next_turn turns old mid next new r0 r1 r2 r3 w0 w1 w2 was out left t is log took pass =
    let way = on_way old mid r0 r1 w0 w1 t.so is in
    let t' : Turns turns old mid r0 r1 w0 w1 [] = record { so = t.so; few = t.few; empty = λ e. refl } in
    let took' : TakesTurn mid next [] out r1 r3 = subst (λ (r : SourceLog). TakesTurn mid next [] out r r3) log (subst (λ (x : List ℕ). TakesTurn mid next x out r2 r3) (t.empty way.written) took) in
    elim took' [
      | inl piece ↦ turn_piece turns old mid next new r0 r1 r3 w0 w1 w2 out left t' way piece pass
      | inr (inl silence) ↦ turn_silence turns old mid next new r0 r1 r3 w0 w1 w2 out left t' way silence pass
      | inr (inr end) ↦ turn_end turns old mid next new r0 r1 r3 w0 w1 w2 out left t' way end pass
    ]

-- ---- a whole conversation

talk_at_end : (r : Request) (begin end : Conversation) (r0 r1 : SourceLog) (w0 w1 : SinkLog) → Begins r begin → (c : Converses begin end r0 r1 w0 w1) → talk_of end ≡ cut_off c.failed (stopped c.why (follow r.id c.events (first_talk r)))
talk_at_end r begin end r0 r1 w0 w1 b c =
    c.talk ∙ ap (λ (x : Request). cut_off c.failed (stopped c.why (follow x.id c.events (talk_of begin)))) b.request ∙ ap (λ (x : Talk). cut_off c.failed (stopped c.why (follow r.id c.events x))) b.talk

came_to : (r : Request) (begin end : Conversation) (r0 r1 : SourceLog) (w0 w1 : SinkLog) → Begins r begin → (c : Converses begin end r0 r1 w0 w1) → ItemsSoFarIn Standard MAX_LIMIT c.bytes (items_of c.events) end.held.items
came_to r begin end r0 r1 w0 w1 b c = subst (λ (x : List ℕ). ItemsSoFarIn Standard MAX_LIMIT (x ++ c.bytes) (items_of c.events) end.held.items) b.held c.came

sent_from : (r : Request) (begin end : Conversation) (r0 r1 : SourceLog) (w0 w1 : SinkLog) → Begins r begin → (c : Converses begin end r0 r1 w0 w1) → IsSent r c.events (first_talk r) c.octets
sent_from r begin end r0 r1 w0 w1 b c = subst (λ (x : Talk). IsSent r c.events x c.octets) b.talk (subst (λ (x : Request). IsSent x c.events (talk_of begin) c.octets) b.request c.sent)

may_at_end : (r : Request) (begin end : Conversation) (r0 r1 : SourceLog) (w0 w1 : SinkLog) → Begins r begin → (c : Converses begin end r0 r1 w0 w1) → may_have_changed (talk_of end).course ≡ may_have_changed (follow r.id c.events (first_talk r)).course
may_at_end r begin end r0 r1 w0 w1 b c =
    let last = follow r.id c.events (first_talk r) in
    ap (λ (x : Talk). may_have_changed x.course) (talk_at_end r begin end r0 r1 w0 w1 b c) ∙ cut_may c.failed (stopped c.why last) ∙ stopped_may c.why last

pub talks : (r : Request) (begin end : Conversation) (r0 r1 : SourceLog) (w0 w1 : SinkLog) (talked : Talked) → Begins r begin → Converses begin end r0 r1 w0 w1 → EndsAs end talked → Talks r r0 r1 w0 w1 talked
talks r begin end r0 r1 w0 w1 talked b c e =
    let last = follow r.id c.events (first_talk r) in
    let talk = talk_at_end r begin end r0 r1 w0 w1 b c in
    record {
      bytes = c.bytes;
      events = c.events;
      rest = end.held.items;
      came = came_to r begin end r0 r1 w0 w1 b c;
      until = c.until;
      read = c.read;
      why = c.why;
      stops = c.stops;
      octets = c.octets;
      sent = sent_from r begin end r0 r1 w0 w1 b c;
      failed = c.failed;
      sends = c.sends;
      outcome_is = e.outcome ∙ ap (λ (x : Talk). outcome x.course) talk;
      report_is = e.report ∙ ap (λ (x : Talk). x.report) talk ∙ cut_report c.failed (stopped c.why last) ∙ stopped_report c.why last;
      seen_is = e.seen ∙ ap (λ (x : Talk). x.course.seen) talk;
      cause_is = e.cause ∙ ap (λ (x : Talk). unwrap_or x.cause Read) talk;
      may_is = e.may ∙ may_at_end r begin end r0 r1 w0 w1 b c;
    }

-- ---- a conversation that breaks off

stops_reads : (why : Option ToolErr) (r0 r1 : SourceLog) (rest : List ℕ) → Stops why r0 r1 rest → ReadsOn r0 r1
stops_reads None r0 r1 rest s = reads_none r0 r1 s.0
stops_reads (Some Early) r0 r1 rest s = ([], s.0.bytes_are)
stops_reads (Some Read) r0 r1 rest s = ([], s.0.bytes_are)
stops_reads (Some Broken) r0 r1 rest s = reads_none r0 r1 s.0
stops_reads (Some Strange) r0 r1 rest s = reads_none r0 r1 s.0
stops_reads (Some _) r0 r1 rest s = absurd s

pub breaks_in_turn : (turns : ℕ) (old mid : Conversation) (r0 r1 r2 r3 : SourceLog) (w0 w1 : SinkLog) (out : List ℕ) (err : AccessErr) → Turns turns old mid r0 r1 w0 w1 out → stands mid.course.stage ≡ true → r2 ≡ r1 → FailsTurn mid r2 r3 err
    → BreaksOff old r0 r3 w0 w1 err
breaks_in_turn turns old mid r0 r1 r2 r3 w0 w1 out err t is log f =
    let way = on_way old mid r0 r1 w0 w1 t.so is in
    record { last = mid; r1 = r1; so = t.so; later = subst (λ (r : SourceLog). ReadsOn r r3) (log ∙ way.same) f.reads; may_is = f.may_is }

pub breaks_after : (turns : ℕ) (old end : Conversation) (r0 r1 : SourceLog) (w0 w1 : SinkLog) (out : List ℕ) (err : AccessErr) → Turns turns old end r0 r1 w0 w1 out → err.may_have_changed ≡ may_have_changed (talk_of end).course
    → BreaksOff old r0 r1 w0 w1 err
breaks_after turns old end r0 r1 w0 w1 out err t may =
    record { last = end; r1 = r1; so = t.so; later = stops_reads t.so.why t.so.until r1 end.held.items t.so.stops; may_is = may }

pub fails : (r : Request) (begin : Conversation) (r0 r1 : SourceLog) (w0 w1 : SinkLog) (err : AccessErr) → Begins r begin → BreaksOff begin r0 r1 w0 w1 err → Fails r r0 r1 w0 w1 err
fails r begin r0 r1 w0 w1 err b f = record {
  bytes = f.so.bytes;
  events = f.so.events;
  rest = f.last.held.items;
  came = came_to r begin f.last r0 f.r1 w0 w1 b f.so;
  until = f.so.until;
  read = f.so.read;
  later = f.later.0;
  read_later = f.later.1;
  octets = f.so.octets;
  sent = sent_from r begin f.last r0 f.r1 w0 w1 b f.so;
  failed = f.so.failed;
  sends = f.so.sends;
  may_is = f.may_is ∙ may_at_end r begin f.last r0 f.r1 w0 w1 b f.so;
}

-- an error after a whole conversation
pub fails_later : (r : Request) (r0 r1 : SourceLog) (w0 w1 : SinkLog) (talked : Talked) (err : AccessErr) → Talks r r0 r1 w0 w1 talked → err.may_have_changed ≡ talked.may_have_changed → Fails r r0 r1 w0 w1 err
fails_later r r0 r1 w0 w1 talked err t may =
    let later = stops_reads t.why t.until r1 t.rest t.stops in
    record {
      bytes = t.bytes;
      events = t.events;
      rest = t.rest;
      came = t.came;
      until = t.until;
      read = t.read;
      later = later.0;
      read_later = later.1;
      octets = t.octets;
      sent = t.sent;
      failed = t.failed;
      sends = t.sends;
      may_is = may ∙ t.may_is;
    }
