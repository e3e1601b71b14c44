-- A run as a whole.
use Rattle.std.proofs.Common.{◌≡◌, ℕ, ◌&&◌, Bool, true, false, List, [], ◌++◌, Result, Ok, Err, refl, sym, ap, subst, ◌∙◌, inl, inr, append_assoc, if◌then◌else◌}
use Rattle.std.specs.List.{list_all}
use Rattle.std.proofs.lemmas.List.Folds.{list_all-append}
use Rattle.llrp_schema.specs.declared.kinds.KindSet.TheVariants.{Standard}
use Rattle.llrp_tree.specs.declared.TheConstants.{MAX_LIMIT}
use Rattle.llrp_stream.specs.declared.item.Item.{Item}
use Rattle.llrp_stream.specs.declared.item.End.{End}
use Rattle.llrp_stream.specs.Device.{SourceLog, SinkLog, Wrote}
use Rattle.llrp_stream.specs.Items.{ItemsSoFarIn}
use Rattle.llrp_stream.proofs.WritingLemmas.{wrote_more}
use Rattle.llrp_listing.specs.declared.outcome.ToolErr.{ToolErr}
use Rattle.llrp_listing.specs.declared.outcome.ToolErr.TheVariants.{Listing, Script, Hex, Read, Write, Bound, Broken, Memory, Peer, Strange, Early}
use Rattle.llrp_listing.specs.declared.outcome.Verdict.{Verdict}
use Rattle.llrp_listing.specs.declared.outcome.Verdict.TheVariants.{Faulty}
use Rattle.llrp_listing.specs.Calls.Copying.{WriteStopped, Writes}
use Rattle.llrp_listing.specs.Show.{ListStopped, ListedAs, StoppedAs, verdict_of}
use Rattle.llrp_listing.specs.StreamListing.{AreTexts, is_clean, is_lawful, is_message}
use Rattle.llrp_ask.specs.declared.ask.Manner.{Manner}
use Rattle.llrp_ask.specs.declared.conversation.Conversation.{Conversation}
use Rattle.llrp_ask.specs.declared.form.Form.{Form}
use Rattle.llrp_ask.specs.declared.step.Step.{Step}
use Rattle.llrp_ask.specs.Calls.Asking.{Course, first_course, follow, items_of}
use Rattle.llrp_ask.specs.Calls.Courses.{course_of}
use Rattle.llrp_ask.specs.Private.Conversations.{Converses, EndsShown, MayFail}
use Rattle.llrp_ask.specs.Calls.Run.{Asked, Asks, answer_in, answer_for, stopped}
use Rattle.llrp_ask.specs.Calls.Shown.{IsShown, end_shown}
use Rattle.llrp_ask.proofs.CourseLemmas.{stopped_sent}
use Rattle.llrp_ask.proofs.FrameLemmas.{texts_more, then_end}

-- ---- errors

list_fails : (w0 w1 : SinkLog) (front : List ℕ) (error : ToolErr) → ListStopped w0 w1 front error → MayFail error
list_fails w0 w1 front Write s = inl refl
list_fails w0 w1 front Memory s = inr refl
list_fails w0 w1 front (Listing line reason) s = absurd s
list_fails w0 w1 front (Script line) s = absurd s
list_fails w0 w1 front Hex s = absurd s
list_fails w0 w1 front Read s = absurd s
list_fails w0 w1 front Bound s = absurd s
list_fails w0 w1 front Broken s = absurd s
list_fails w0 w1 front (Peer status) s = absurd s
list_fails w0 w1 front Strange s = absurd s
list_fails w0 w1 front Early s = absurd s

pub show_fails : (form : Form) (bytes : List ℕ) (w0 w1 : SinkLog) (error : ToolErr) → StoppedAs (IsShown form) (end_shown form) Standard MAX_LIMIT bytes w0 w1 error → MayFail error
show_fails form bytes w0 w1 error s = list_fails w0 w1 s.front error s.log

write_fails : (w0 w1 : SinkLog) (front : List ℕ) (error : ToolErr) → WriteStopped w0 w1 front error → MayFail error
write_fails w0 w1 front Write s = inl refl
write_fails w0 w1 front Memory s = absurd s
write_fails w0 w1 front (Listing line reason) s = absurd s
write_fails w0 w1 front (Script line) s = absurd s
write_fails w0 w1 front Hex s = absurd s
write_fails w0 w1 front Read s = absurd s
write_fails w0 w1 front Bound s = absurd s
write_fails w0 w1 front Broken s = absurd s
write_fails w0 w1 front (Peer status) s = absurd s
write_fails w0 w1 front Strange s = absurd s
write_fails w0 w1 front Early s = absurd s

pub hand_fails : (bytes : List ℕ) (w0 w1 : SinkLog) (error : ToolErr) → Writes bytes w0 w1 (Err error) → MayFail error
hand_fails bytes w0 w1 error w = write_fails w0 w1 w.0 error w.2

pub asks_failed : (manner : Manner) (steps : List Step) (r0 r1 : SourceLog) (w0 w1 p0 p1 : SinkLog) (error : ToolErr) → MayFail error → Asks manner steps r0 r1 w0 w1 p0 p1 (Err error)
asks_failed manner steps r0 r1 w0 w1 p0 p1 error (inl e) = subst (λ (x : ToolErr). Asks manner steps r0 r1 w0 w1 p0 p1 (Err x)) (sym e) tt
asks_failed manner steps r0 r1 w0 w1 p0 p1 error (inr e) = subst (λ (x : ToolErr). Asks manner steps r0 r1 w0 w1 p0 p1 (Err x)) (sym e) tt

-- ---- all that came

and_all : (a b c : Bool) → ((a && b) && c) ≡ (a && (b && c))
and_all true b c = refl
and_all false b c = refl

verdict_on : (front more : Bool) (last : Verdict) → last ≡ verdict_of more → (if front then last else Faulty) ≡ verdict_of (front && more)
verdict_on true more last e = e
verdict_on false more last e = refl

lawful_all : (items more : List Item) (end : End) → is_lawful (items ++ more) end ≡ (list_all is_message items && is_lawful more end)
unfolding is_lawful
lawful_all items more end = ap (λ (b : Bool). b && is_clean end) (list_all-append is_message items more) ∙ and_all (list_all is_message items) (list_all is_message more) (is_clean end)

pub listed_all : (form : Form) (bytes rest : List ℕ) (items : List Item) (text : List ℕ) (p0 p1 p2 : SinkLog) (lawful : Bool) (last verdict : Verdict)
    → ItemsSoFarIn Standard MAX_LIMIT bytes items rest → AreTexts (IsShown form) items text → Wrote p0 p1 text → lawful ≡ list_all is_message items
    → ListedAs (IsShown form) (end_shown form) Standard MAX_LIMIT rest p1 p2 last → verdict ≡ (if lawful then last else Faulty)
    → ListedAs (IsShown form) (end_shown form) Standard MAX_LIMIT bytes p0 p2 verdict
listed_all form bytes rest items text p0 p1 p2 lawful last verdict came texts shown lawful_is l verdict_is = record {
  items = items ++ l.items;
  end = l.end;
  text = text ++ l.text;
  are = then_end bytes rest items l.items l.end came l.are;
  is = record {
    front = text ++ l.is.front;
    lines = texts_more form items l.items text l.is.front texts l.is.lines;
    text_is = ap (λ (x : List ℕ). text ++ x) l.is.text_is ∙ sym (append_assoc text l.is.front (end_shown form l.end));
  };
  written = wrote_more p0 p1 p2 text l.text shown l.written;
  verdict_is = verdict_is ∙ ap (λ (b : Bool). if b then last else Faulty) lawful_is ∙ verdict_on (list_all is_message items) (is_lawful l.items l.end) last l.verdict_is ∙ ap verdict_of (sym (lawful_all items l.items l.end));
}

pub asked : (manner : Manner) (steps : List Step) (begin end : Conversation) (r0 r1 : SourceLog) (w0 w1 p0 p1 p2 : SinkLog) (verdict : Verdict) (answer : Result Verdict ToolErr)
    → course_of begin.asking [] ≡ first_course manner.goes_on steps → begin.form ≡ manner.form → begin.held.items ≡ [] → begin.lawful ≡ true
    → Converses begin end r0 r1 w0 w1 p0 p1 → EndsShown end p1 p2 verdict → answer ≡ answer_in end.asking.phase end.asking.refused verdict → Asked manner steps r0 r1 w0 w1 p0 p2 answer
asked manner steps begin end r0 r1 w0 w1 p0 p1 p2 verdict answer first form held lawful c shown is =
    let forms : end.form ≡ manner.form = c.form ∙ form in
    let came : ItemsSoFarIn Standard MAX_LIMIT c.bytes (items_of c.events) end.held.items = subst (λ (x : List ℕ). ItemsSoFarIn Standard MAX_LIMIT (x ++ c.bytes) (items_of c.events) end.held.items) held c.came in
    let course : course_of end.asking c.sent ≡ stopped c.why (follow c.events (first_course manner.goes_on steps)) = c.course ∙ ap (λ (x : Course). stopped c.why (follow c.events x)) first in
    let sent : c.sent ≡ (follow c.events (first_course manner.goes_on steps)).sent = ap (λ (x : Course). x.sent) course ∙ stopped_sent c.why (follow c.events (first_course manner.goes_on steps)) in
    record {
      bytes = c.bytes;
      events = c.events;
      rest = end.held.items;
      came = came;
      until = c.until;
      read = c.read;
      why = c.why;
      stops = c.stops;
      sent = subst (Wrote w0 w1) sent c.said;
      verdict = verdict;
      shown = listed_all manner.form c.bytes end.held.items (items_of c.events) c.text p0 p1 p2 end.lawful shown.last verdict came (subst (λ (f : Form). AreTexts (IsShown f) (items_of c.events) c.text) form c.is_text) c.shown
          (c.lawful ∙ ap (λ (b : Bool). b && list_all is_message (items_of c.events)) lawful) (subst (λ (f : Form). ListedAs (IsShown f) (end_shown f) Standard MAX_LIMIT end.held.items p1 p2 shown.last) forms shown.shown) shown.verdict_is;
      answer_is = is ∙ ap (λ (x : Course). answer_for x verdict) course;
    }

pub asks_of : (manner : Manner) (steps : List Step) (r0 r1 : SourceLog) (w0 w1 p0 p1 : SinkLog) (answer : Result Verdict ToolErr) → Asked manner steps r0 r1 w0 w1 p0 p1 answer → Asks manner steps r0 r1 w0 w1 p0 p1 answer
asks_of manner steps r0 r1 w0 w1 p0 p1 (Ok verdict) a = a
asks_of manner steps r0 r1 w0 w1 p0 p1 (Err Write) a = tt
asks_of manner steps r0 r1 w0 w1 p0 p1 (Err Memory) a = tt
asks_of manner steps r0 r1 w0 w1 p0 p1 (Err (Listing line reason)) a = a
asks_of manner steps r0 r1 w0 w1 p0 p1 (Err (Script line)) a = a
asks_of manner steps r0 r1 w0 w1 p0 p1 (Err Hex) a = a
asks_of manner steps r0 r1 w0 w1 p0 p1 (Err Read) a = a
asks_of manner steps r0 r1 w0 w1 p0 p1 (Err Bound) a = a
asks_of manner steps r0 r1 w0 w1 p0 p1 (Err Broken) a = a
asks_of manner steps r0 r1 w0 w1 p0 p1 (Err (Peer status)) a = a
asks_of manner steps r0 r1 w0 w1 p0 p1 (Err Strange) a = a
asks_of manner steps r0 r1 w0 w1 p0 p1 (Err Early) a = a
