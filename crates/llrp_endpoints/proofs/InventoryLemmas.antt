-- Following a plan over a source and two sinks.
use Rattle.std.proofs.Common.{◌≡◌, ℕ, Bool, true, false, List, [], ◌++◌, Result, Ok, Err, refl, sym, ap, subst, ◌∙◌, append_assoc, inl, inr, arith}
use Rattle.std.proofs.lemmas.List.{append-nil}
use Rattle.std.proofs.lemmas.List.Concat.{flat_map-append}
use Rattle.llrp_tree.specs.Tree.{Tree, MessageTree}
use Rattle.llrp_stream.specs.Device.{SourceLog, SinkLog, Wrote}
use Rattle.llrp_session.specs.Contents.{ClientMessage}
use Rattle.llrp_endpoints.specs.Asides.{Asides, said_for, all_said}
use Rattle.llrp_listing.specs.declared.outcome.ToolErr.{ToolErr}
use Rattle.llrp_listing.specs.declared.outcome.ToolErr.TheVariants.{Listing, Script, Hex, Read, Write, Bound, Broken, Memory, Peer, Strange, Early}
use Rattle.llrp_endpoints.specs.declared.gathering.Gathering.{Gathering}
use Rattle.llrp_endpoints.specs.declared.course.Phase.TheVariants.{Open}
use Rattle.llrp_endpoints.specs.declared.summary.Summary.{Summary}
use Rattle.llrp_listing.specs.Copying.{IsPrefix}
use Rattle.llrp_listing.specs.Calls.Copying.{Writes}
use Rattle.llrp_endpoints.specs.Private.Reads.{GivenWithin, GivesNoneWithin}
use Rattle.llrp_endpoints.specs.Gathering.{Course, new_course}
use Rattle.llrp_endpoints.specs.Gathering.{closing_text}
use Rattle.llrp_endpoints.specs.Calls.GatheringStands.{IsOpen, Counts, Moves, MovesSome, Feeds, phase_left}
use Rattle.llrp_endpoints.specs.Plan.{Plan}
use Rattle.llrp_endpoints.specs.RunInventory.{Says, SaysSome, AwaitsBytes, WroteAll, BeginsSaying, WasGivenWithin, ReadAllWithin, RunsInventoryWithin}
use Rattle.llrp_endpoints.specs.declared.form.LineForm.{LineForm}
use Rattle.llrp_endpoints.specs.Sending.{AreFrames, Adds}
use Rattle.llrp_endpoints.specs.TagLines.{AreReports, summary_of}
use Rattle.llrp_stream.proofs.WritingLemmas.{wrote_nothing, wrote_more, wrote_then_failed}
use Rattle.llrp_listing.proofs.DeviceLemmas.{gave_nothing}
use Rattle.llrp_endpoints.proofs.GatheringLemmas.{reports_none, reports_append, open_text}
use Rattle.llrp_endpoints.proofs.SendingLemmas.{frames_none, frames_append}

-- ---- what is said

pub says_nothing : (limit : ℕ) (plan : Plan) → Says (new_course limit plan) [] []
says_nothing limit plan = record { frames_are = frames_none; lines = []; lines_are = reports_none plan.form; text_is = refl }

pub added : (messages : List MessageTree) (old new : List ℕ) → old ≡ [] → Adds messages old new → AreFrames messages new
added messages old new none a = subst (λ (x : List ℕ). AreFrames messages x) (sym (a.whole ∙ ap (λ (x : List ℕ). x ++ a.text) none)) a.frames

frames_more : (s : Asides) (a b : List ClientMessage) (x y : List ℕ) → AreFrames (all_said s a) x → AreFrames (all_said s b) y → AreFrames (all_said s (a ++ b)) (x ++ y)
frames_more s a b x y p q = rw (flat_map-append (said_for s) a b) (frames_append (all_said s a) (all_said s b) x y p q)

-- a course that goes on says this much more
pub goes_on_saying : (c d : Course) (frames text o0 o1 r0 r1 : List ℕ) → Says c frames text → c.phase ≡ Open → o0 ≡ [] → r0 ≡ [] → Moves c d o0 o1 r0 r1 → Says d (frames ++ o1) (text ++ r1)
goes_on_saying c d frames text o0 o1 r0 r1 s opened no_frames no_text m =
    let before : text ≡ s.lines = s.text_is ∙ ap (λ (x : List ℕ). s.lines ++ x) (open_text c.form c.phase c.reports opened) ∙ append-nil s.lines in
    let last = closing_text c.form d.phase d.reports in
    let behind : r1 ≡ m.lines ++ last = m.printed ∙ ap (λ (x : List ℕ). x ++ (m.lines ++ last)) no_text in
    let lines : AreReports c.form d.reports (s.lines ++ m.lines) = rw m.reports_are (reports_append c.form c.reports m.reports s.lines m.lines s.lines_are m.are) in
    let whole : text ++ r1 ≡ (s.lines ++ m.lines) ++ last = rw (before, behind) (sym (append_assoc s.lines m.lines last)) in
    record {
      frames_are = rw (m.sent_are, m.asides_are) (frames_more c.asides c.sent m.messages frames o1 s.frames_are (added (all_said c.asides m.messages) o0 o1 no_frames m.frames));
      lines = s.lines ++ m.lines;
      lines_are = subst (λ (f : LineForm). AreReports f d.reports (s.lines ++ m.lines)) (sym m.form_is) lines;
      text_is = whole ∙ ap (λ (f : LineForm). (s.lines ++ m.lines) ++ closing_text f d.phase d.reports) (sym m.form_is);
    }

-- where memory ran out
goes_on_saying_some : (c d : Course) (frames text o0 o1 r0 r1 : List ℕ) → Says c frames text → c.phase ≡ Open → o0 ≡ [] → r0 ≡ [] → MovesSome c d o0 o1 r0 r1 → SaysSome d (frames ++ o1) (text ++ r1)
goes_on_saying_some c d frames text o0 o1 r0 r1 s opened no_frames no_text m =
    let before : text ≡ s.lines = s.text_is ∙ ap (λ (x : List ℕ). s.lines ++ x) (open_text c.form c.phase c.reports opened) ∙ append-nil s.lines in
    let behind : r1 ≡ m.lines = m.printed ∙ ap (λ (x : List ℕ). x ++ m.lines) no_text in
    let old = all_said c.asides c.sent in
    record {
      messages = old ++ m.frames.first;
      later_messages = m.frames.later;
      sent_are = ap (λ (a : Asides). all_said a d.sent) m.asides_are ∙ ap (all_said c.asides) m.sent_are ∙ flat_map-append (said_for c.asides) c.sent m.messages ∙ ap (λ (ms : List MessageTree). old ++ ms) m.frames.parts ∙ sym (append_assoc old m.frames.first m.frames.later);
      frames_are = frames_append old m.frames.first frames o1 s.frames_are (added m.frames.first o0 o1 no_frames m.frames.adds);
      reports = c.reports ++ m.reports;
      later_reports = m.later;
      reports_are = m.reports_are ∙ sym (append_assoc c.reports m.reports m.later);
      lines_are = subst (λ (f : LineForm). AreReports f (c.reports ++ m.reports) (text ++ r1)) (sym m.form_is) (rw (before, behind) (reports_append c.form c.reports m.reports s.lines m.lines s.lines_are m.are));
    }

-- whatever a feed answers
pub says_so_far : (limit : ℕ) (plan : Plan) (bytes : List ℕ) (c : Course) (g : Gathering) (frames text o0 o1 r0 r1 : List ℕ) (answer : Result Bool ToolErr) → Says c frames text → c.phase ≡ Open → o0 ≡ [] → r0 ≡ [] → Feeds limit plan bytes c g o0 o1 r0 r1 answer
    → BeginsSaying limit plan bytes (frames ++ o1) (text ++ r1)
says_so_far limit plan bytes c g frames text o0 o1 r0 r1 answer s opened no_frames no_text feeds = by_answer answer feeds
  where
    all : (d : Course) → Moves c d o0 o1 r0 r1 → Says d (frames ++ o1) (text ++ r1)
    all d m = goes_on_saying c d frames text o0 o1 r0 r1 s opened no_frames no_text m

    by_answer : (answer : Result Bool ToolErr) → Feeds limit plan bytes c g o0 o1 r0 r1 answer → BeginsSaying limit plan bytes (frames ++ o1) (text ++ r1)
    by_answer (Ok false) f = (f.0, f.1, f.2.gathers, inl (all f.1 f.3))
    by_answer (Ok true) f = (f.0, f.1, f.2, inl (all f.1 f.5))
    by_answer (Err Memory) f = (f.0, f.1, f.2, inr (goes_on_saying_some c f.1 frames text o0 o1 r0 r1 s opened no_frames no_text f.3))
    by_answer (Err (Peer status)) f = (f.0, f.1, f.2, inl (all f.1 f.3.1))
    by_answer (Err Strange) f = (f.0, f.1, f.2, inl (all f.1 f.3.1))
    by_answer (Err Early) f = (f.0, f.1, f.2, inl (all f.1 f.3.1))
    by_answer (Err Broken) f = (f.0, f.1, f.2, inl (all f.1 f.5))
    by_answer (Err (Listing line reason)) f = absurd f.3
    by_answer (Err (Script line)) f = absurd f.3
    by_answer (Err Hex) f = absurd f.3
    by_answer (Err Read) f = absurd f.3
    by_answer (Err Write) f = absurd f.3
    by_answer (Err Bound) f = absurd f.3

-- ---- the loop

-- What was followed and written to these bytes.
pub record SoFar (limit : ℕ) (plan : Plan) (bytes : List ℕ) (w0 w1 t0 t1 : SinkLog) (g : Gathering) (out lines : List ℕ) : Type 0 where
  pub rest : List ℕ
  pub course : Course
  pub open_still : IsOpen limit plan bytes rest course g
  pub frames : List ℕ
  pub text : List ℕ
  pub says : Says course frames text
  pub sent : Wrote w0 w1 frames
  pub told : Wrote t0 t1 text
  pub sent_on : out ≡ []
  pub told_on : lines ≡ []

-- The same to all that was read, of whatever plan the client followed when it began.
pub record Following (most : ℕ) (r0 r1 : SourceLog) (w0 w1 t0 t1 : SinkLog) (n : ℕ) (first g : Gathering) (out lines : List ℕ) : Type 0 where
  pub bytes : List ℕ
  pub given : GivenWithin most r0 r1 n bytes
  pub frames : List ℕ
  pub text : List ℕ
  pub sent : Wrote w0 w1 frames
  pub told : Wrote t0 t1 text
  pub sent_on : out ≡ []
  pub told_on : lines ≡ []
  pub follows : (limit : ℕ) (plan : Plan) → IsOpen limit plan [] [] (new_course limit plan) first → (rest : List ℕ) × (course : Course) × IsOpen limit plan bytes rest course g × Says course frames text

pub begins : (most : ℕ) (r : SourceLog) (w t : SinkLog) (n : ℕ) (g : Gathering) (out lines : List ℕ) → n ≡ 0 → out ≡ [] → lines ≡ [] → Following most r r w w t t n g g out lines
begins most r w t n g out lines unread no_frames no_text = record {
  bytes = [];
  given = rw unread (record { gave = gave_nothing r; few = omega arith });
  frames = [];
  text = [];
  sent = wrote_nothing w;
  told = wrote_nothing t;
  sent_on = no_frames;
  told_on = no_text;
  follows = λ limit plan opened. ([], new_course limit plan, opened, says_nothing limit plan);
}

pub so_far : (most : ℕ) (limit : ℕ) (plan : Plan) (r0 r1 : SourceLog) (w0 w1 t0 t1 : SinkLog) (n : ℕ) (first g : Gathering) (out lines : List ℕ) (f : Following most r0 r1 w0 w1 t0 t1 n first g out lines) → IsOpen limit plan [] [] (new_course limit plan) first
    → SoFar limit plan f.bytes w0 w1 t0 t1 g out lines
so_far most limit plan r0 r1 w0 w1 t0 t1 n first g out lines f opened =
    let now = f.follows limit plan opened in
    record {
      rest = now.0;
      course = now.1;
      open_still = now.2;
      frames = f.frames;
      text = f.text;
      says = now.3;
      sent = f.sent;
      told = f.told;
      sent_on = f.sent_on;
      told_on = f.told_on;
    }

-- all frames of the bytes were taken
pub awaits : (limit : ℕ) (plan : Plan) (bytes rest : List ℕ) (course : Course) (g : Gathering) → IsOpen limit plan bytes rest course g → AwaitsBytes limit plan bytes course
awaits limit plan bytes rest course g h = (rest, h.stands.gathers, h.stands.open_is, h.stands.decoder.unfinished)

wrote_so_far : (limit : ℕ) (plan : Plan) (bytes : List ℕ) (w0 w1 t0 t1 : SinkLog) (g : Gathering) (out lines : List ℕ) (f : SoFar limit plan bytes w0 w1 t0 t1 g out lines) → WroteAll f.course w0 w1 t0 t1
wrote_so_far limit plan bytes w0 w1 t0 t1 g out lines f = (f.frames, f.text, f.says, f.sent, f.told)

-- ---- where reading stops

-- no piece came
pub read_none : (most : ℕ) (limit : ℕ) (plan : Plan) (r0 r1 : SourceLog) (bytes : List ℕ) (w0 w1 t0 t1 : SinkLog) (g : Gathering) (out lines : List ℕ) (error : ToolErr) → SoFar limit plan bytes w0 w1 t0 t1 g out lines → GivesNoneWithin most r0 r1 bytes error
    → (bytes : List ℕ) × RunsInventoryWithin most limit plan r0 r1 w0 w1 t0 t1 bytes (Err error)
read_none most limit plan r0 r1 bytes w0 w1 t0 t1 g out lines error f (inl none) =
    rw none.0 (bytes, ((none.1, none.2), f.course, awaits limit plan bytes f.rest f.course g f.open_still, wrote_so_far limit plan bytes w0 w1 t0 t1 g out lines f))
read_none most limit plan r0 r1 bytes w0 w1 t0 t1 g out lines error f (inr none) =
    rw none.0 (bytes, (none.1, f.course, awaits limit plan bytes f.rest f.course g f.open_still, wrote_so_far limit plan bytes w0 w1 t0 t1 g out lines f))

pub at_the_end : (most : ℕ) (limit : ℕ) (plan : Plan) (r0 r1 : SourceLog) (bytes : List ℕ) (w0 w1 t0 t1 : SinkLog) (g : Gathering) (out lines : List ℕ) → SoFar limit plan bytes w0 w1 t0 t1 g out lines → ReadAllWithin most r0 r1 bytes
    → (bytes : List ℕ) × RunsInventoryWithin most limit plan r0 r1 w0 w1 t0 t1 bytes (Err Early)
at_the_end most limit plan r0 r1 bytes w0 w1 t0 t1 g out lines f all =
    (bytes, (f.course, wrote_so_far limit plan bytes w0 w1 t0 t1 g out lines f, inl (all, awaits limit plan bytes f.rest f.course g f.open_still)))

-- ---- a piece

-- A piece was read, and fed.
pub record Piece (most : ℕ) (limit : ℕ) (plan : Plan) (r0 r1 : SourceLog) (bytes got : List ℕ) (w0 w1 t0 t1 : SinkLog) (g new : Gathering) (out0 out1 lines0 lines1 : List ℕ) (answer : Result Bool ToolErr) : Type 0 where
  pub before : SoFar limit plan bytes w0 w1 t0 t1 g out0 lines0
  pub given : WasGivenWithin most r0 r1 (bytes ++ got)
  pub feeds : Feeds limit plan (bytes ++ got) before.course new out0 out1 lines0 lines1 answer
  pub phase_is : new.phase ≡ phase_left answer

pub piece : (most : ℕ) (limit : ℕ) (plan : Plan) (r0 r1 : SourceLog) (n : ℕ) (bytes got : List ℕ) (w0 w1 t0 t1 : SinkLog) (g new : Gathering) (out0 out1 lines0 lines1 : List ℕ) (answer : Result Bool ToolErr) → SoFar limit plan bytes w0 w1 t0 t1 g out0 lines0
    → GivenWithin most r0 r1 n (bytes ++ got)
    → ((limit : ℕ) (plan : Plan) (before rest : List ℕ) (c : Course) → IsOpen limit plan before rest c g → Feeds limit plan (before ++ got) c new out0 out1 lines0 lines1 answer)
    → (g.phase ≡ Open → new.phase ≡ phase_left answer)
    → Piece most limit plan r0 r1 bytes got w0 w1 t0 t1 g new out0 out1 lines0 lines1 answer
piece most limit plan r0 r1 n bytes got w0 w1 t0 t1 g new out0 out1 lines0 lines1 answer f given feeds phase = record {
  before = f;
  given = (n, given.few, given.gave);
  feeds = feeds limit plan bytes f.rest f.course f.open_still;
  phase_is = phase f.open_still.phase;
}

begins_piece : (most : ℕ) (limit : ℕ) (plan : Plan) (r0 r1 : SourceLog) (bytes got : List ℕ) (w0 w1 t0 t1 : SinkLog) (g new : Gathering) (out0 out1 lines0 lines1 : List ℕ) (answer : Result Bool ToolErr) (p : Piece most limit plan r0 r1 bytes got w0 w1 t0 t1 g new out0 out1 lines0 lines1 answer)
    → BeginsSaying limit plan (bytes ++ got) (p.before.frames ++ out1) (p.before.text ++ lines1)
begins_piece most limit plan r0 r1 bytes got w0 w1 t0 t1 g new out0 out1 lines0 lines1 answer p =
    let f = p.before in
    says_so_far limit plan (bytes ++ got) f.course new f.frames f.text out0 out1 lines0 lines1 answer f.says f.open_still.stands.open_is f.sent_on f.told_on p.feeds

-- all that the course says was written
wrote_piece : (most : ℕ) (limit : ℕ) (plan : Plan) (r0 r1 : SourceLog) (bytes got : List ℕ) (w0 w1 w2 t0 t1 t2 : SinkLog) (g new : Gathering) (out0 out1 lines0 lines1 : List ℕ) (answer : Result Bool ToolErr) (p : Piece most limit plan r0 r1 bytes got w0 w1 t0 t1 g new out0 out1 lines0 lines1 answer) (d : Course)
    → Moves p.before.course d out0 out1 lines0 lines1 → Wrote w1 w2 out1 → Wrote t1 t2 lines1 → WroteAll d w0 w2 t0 t2
wrote_piece most limit plan r0 r1 bytes got w0 w1 w2 t0 t1 t2 g new out0 out1 lines0 lines1 answer p d m sent told =
    let f = p.before in (
      f.frames ++ out1,
      f.text ++ lines1,
      goes_on_saying f.course d f.frames f.text out0 out1 lines0 lines1 f.says f.open_still.stands.open_is f.sent_on f.told_on m,
      wrote_more w0 w1 w2 f.frames out1 f.sent sent,
      wrote_more t0 t1 t2 f.text lines1 f.told told,
    )

-- ---- where writing stops

pub only_write : (bytes : List ℕ) (old new : SinkLog) (error : ToolErr) → Writes bytes old new (Err error) → error ≡ Write
only_write bytes old new Write w = refl
only_write bytes old new Memory w = absurd w.2
only_write bytes old new Read w = absurd w.2
only_write bytes old new Bound w = absurd w.2
only_write bytes old new (Script line) w = absurd w.2
only_write bytes old new Hex w = absurd w.2
only_write bytes old new Broken w = absurd w.2
only_write bytes old new Early w = absurd w.2
only_write bytes old new (Peer status) w = absurd w.2
only_write bytes old new Strange w = absurd w.2
only_write bytes old new (Listing line reason) w = absurd w.2

-- a front of what follows
pub front_behind : (before front text : List ℕ) → IsPrefix front text → IsPrefix (before ++ front) (before ++ text)
front_behind before front text p = (p.0, ap (λ (x : List ℕ). before ++ x) p.1 ∙ sym (append_assoc before front p.0))

pub sent_in_part : (most : ℕ) (limit : ℕ) (plan : Plan) (r0 r1 : SourceLog) (bytes got : List ℕ) (w0 w1 w2 t0 t1 : SinkLog) (g new : Gathering) (out0 out1 lines0 lines1 : List ℕ) (answer : Result Bool ToolErr) (error : ToolErr) → Piece most limit plan r0 r1 bytes got w0 w1 t0 t1 g new out0 out1 lines0 lines1 answer
    → Writes out1 w1 w2 (Err error) → (bytes : List ℕ) × RunsInventoryWithin most limit plan r0 r1 w0 w2 t0 t1 bytes (Err error)
sent_in_part most limit plan r0 r1 bytes got w0 w1 w2 t0 t1 g new out0 out1 lines0 lines1 answer error p w =
    let f = p.before in
    let is : error ≡ Write = only_write out1 w1 w2 error w in
    let w_is : Writes out1 w1 w2 (Err Write) = subst (λ (e : ToolErr). Writes out1 w1 w2 (Err e)) is w in
    rw is (
      bytes ++ got,
      (
        p.given,
        f.frames ++ out1,
        f.text ++ lines1,
        begins_piece most limit plan r0 r1 bytes got w0 w1 t0 t1 g new out0 out1 lines0 lines1 answer p,
        (f.frames ++ w_is.0, inl (front_behind f.frames w_is.0 out1 w_is.1, wrote_then_failed w0 w1 w2 f.frames w_is.0 f.sent w_is.2, f.text, (lines1, refl), f.told)),
      ),
    )

pub told_in_part : (most : ℕ) (limit : ℕ) (plan : Plan) (r0 r1 : SourceLog) (bytes got : List ℕ) (w0 w1 w2 t0 t1 t2 : SinkLog) (g new : Gathering) (out0 out1 lines0 lines1 : List ℕ) (answer : Result Bool ToolErr) (error : ToolErr) → Piece most limit plan r0 r1 bytes got w0 w1 t0 t1 g new out0 out1 lines0 lines1 answer
    → Wrote w1 w2 out1 → Writes lines1 t1 t2 (Err error) → (bytes : List ℕ) × RunsInventoryWithin most limit plan r0 r1 w0 w2 t0 t2 bytes (Err error)
told_in_part most limit plan r0 r1 bytes got w0 w1 w2 t0 t1 t2 g new out0 out1 lines0 lines1 answer error p sent w =
    let f = p.before in
    let is : error ≡ Write = only_write lines1 t1 t2 error w in
    let w_is : Writes lines1 t1 t2 (Err Write) = subst (λ (e : ToolErr). Writes lines1 t1 t2 (Err e)) is w in
    rw is (
      bytes ++ got,
      (
        p.given,
        f.frames ++ out1,
        f.text ++ lines1,
        begins_piece most limit plan r0 r1 bytes got w0 w1 t0 t1 g new out0 out1 lines0 lines1 answer p,
        (f.text ++ w_is.0, inr (front_behind f.text w_is.0 lines1 w_is.1, wrote_then_failed t0 t1 t2 f.text w_is.0 f.told w_is.2, wrote_more w0 w1 w2 f.frames out1 f.sent sent)),
      ),
    )

-- ---- where the course ends

pub piece_failed : (most : ℕ) (limit : ℕ) (plan : Plan) (r0 r1 : SourceLog) (bytes got : List ℕ) (w0 w1 w2 t0 t1 t2 : SinkLog) (g new : Gathering) (out0 out1 lines0 lines1 : List ℕ) (error : ToolErr) → Piece most limit plan r0 r1 bytes got w0 w1 t0 t1 g new out0 out1 lines0 lines1 (Err error)
    → Wrote w1 w2 out1 → Wrote t1 t2 lines1 → (bytes : List ℕ) × RunsInventoryWithin most limit plan r0 r1 w0 w2 t0 t2 bytes (Err error)
piece_failed most limit plan r0 r1 bytes got w0 w1 w2 t0 t1 t2 g new out0 out1 lines0 lines1 error p sent told = (bytes ++ got, by_error error p)
  where
    wrote : (error : ToolErr) (p : Piece most limit plan r0 r1 bytes got w0 w1 t0 t1 g new out0 out1 lines0 lines1 (Err error)) (d : Course) → Moves p.before.course d out0 out1 lines0 lines1 → WroteAll d w0 w2 t0 t2
    wrote error p d m = wrote_piece most limit plan r0 r1 bytes got w0 w1 w2 t0 t1 t2 g new out0 out1 lines0 lines1 (Err error) p d m sent told

    by_error : (error : ToolErr) (p : Piece most limit plan r0 r1 bytes got w0 w1 t0 t1 g new out0 out1 lines0 lines1 (Err error)) → RunsInventoryWithin most limit plan r0 r1 w0 w2 t0 t2 (bytes ++ got) (Err error)
    by_error Early p = let e = p.feeds in (e.1, wrote Early p e.1 e.3.1, inr (p.given, (e.0, e.2, e.3.0)))
    by_error (Peer status) p = let e = p.feeds in (p.given, e.1, (e.0, e.2, e.3.0), wrote (Peer status) p e.1 e.3.1)
    by_error Strange p = let e = p.feeds in (p.given, e.1, (e.0, e.2, e.3.0), wrote Strange p e.1 e.3.1)
    by_error Broken p = let e = p.feeds in (p.given, e.1, (e.0, e.2, e.3, e.4), wrote Broken p e.1 e.5)
    by_error Memory p =
        let f = p.before in (
          p.given,
          f.frames ++ out1,
          f.text ++ lines1,
          begins_piece most limit plan r0 r1 bytes got w0 w1 t0 t1 g new out0 out1 lines0 lines1 (Err Memory) p,
          wrote_more w0 w1 w2 f.frames out1 f.sent sent,
          wrote_more t0 t1 t2 f.text lines1 f.told told,
        )
    by_error (Listing line reason) p = absurd p.feeds.3
    by_error (Script line) p = absurd p.feeds.3
    by_error Hex p = absurd p.feeds.3
    by_error Read p = absurd p.feeds.3
    by_error Write p = absurd p.feeds.3
    by_error Bound p = absurd p.feeds.3

pub piece_closed : (most : ℕ) (limit : ℕ) (plan : Plan) (r0 r1 : SourceLog) (bytes got : List ℕ) (w0 w1 w2 t0 t1 t2 : SinkLog) (g new : Gathering) (out0 out1 lines0 lines1 : List ℕ) (answer : Bool) (summary : Summary) → Piece most limit plan r0 r1 bytes got w0 w1 t0 t1 g new out0 out1 lines0 lines1 (Ok answer) → answer ≡ true
    → Wrote w1 w2 out1 → Wrote t1 t2 lines1 → ((reports : List (List Tree)) → Counts reports new → summary ≡ summary_of reports) → (bytes : List ℕ) × RunsInventoryWithin most limit plan r0 r1 w0 w2 t0 t2 bytes (Ok summary)
piece_closed most limit plan r0 r1 bytes got w0 w1 w2 t0 t1 t2 g new out0 out1 lines0 lines1 false summary p is sent told counts = absurd cc
piece_closed most limit plan r0 r1 bytes got w0 w1 w2 t0 t1 t2 g new out0 out1 lines0 lines1 true summary p is sent told counts =
    let e = p.feeds in
    (bytes ++ got, (p.given, e.1, (e.0, e.2, e.3), wrote_piece most limit plan r0 r1 bytes got w0 w1 w2 t0 t1 t2 g new out0 out1 lines0 lines1 (Ok true) p e.1 e.5 sent told, counts e.1.reports e.4))

-- the course goes on
piece_goes : (most : ℕ) (limit : ℕ) (plan : Plan) (r0 r1 : SourceLog) (bytes got : List ℕ) (w0 w1 t0 t1 : SinkLog) (g new : Gathering) (out0 out1 lines0 lines1 : List ℕ) (answer : Bool) (p : Piece most limit plan r0 r1 bytes got w0 w1 t0 t1 g new out0 out1 lines0 lines1 (Ok answer)) → answer ≡ false
    → (rest : List ℕ) × (course : Course) × IsOpen limit plan (bytes ++ got) rest course new × Says course (p.before.frames ++ out1) (p.before.text ++ lines1)
piece_goes most limit plan r0 r1 bytes got w0 w1 t0 t1 g new out0 out1 lines0 lines1 true p not_yet = absurd cc
piece_goes most limit plan r0 r1 bytes got w0 w1 t0 t1 g new out0 out1 lines0 lines1 false p not_yet =
    let e = p.feeds in
    let f = p.before in
    (e.0, e.1, record { stands = e.2; phase = p.phase_is }, goes_on_saying f.course e.1 f.frames f.text out0 out1 lines0 lines1 f.says f.open_still.stands.open_is f.sent_on f.told_on e.3)

pub piece_open : (most : ℕ) (r0 r1 r2 : SourceLog) (w0 w1 w2 t0 t1 t2 : SinkLog) (n m : ℕ) (first g new : Gathering) (out0 out1 out2 lines0 lines1 lines2 got : List ℕ) (answer : Bool) (f : Following most r0 r1 w0 w1 t0 t1 n first g out0 lines0) → GivenWithin most r0 r2 m (f.bytes ++ got)
    → ((limit : ℕ) (plan : Plan) (before rest : List ℕ) (c : Course) → IsOpen limit plan before rest c g → Feeds limit plan (before ++ got) c new out0 out1 lines0 lines1 (Ok answer))
    → (g.phase ≡ Open → new.phase ≡ phase_left (Ok answer))
    → answer ≡ false → Wrote w1 w2 out1 → Wrote t1 t2 lines1 → out2 ≡ [] → lines2 ≡ [] → Following most r0 r2 w0 w2 t0 t2 m first new out2 lines2
unfolding piece so_far
piece_open most r0 r1 r2 w0 w1 w2 t0 t1 t2 n m first g new out0 out1 out2 lines0 lines1 lines2 got answer f given feeds phase not_yet sent told no_frames no_text = record {
  bytes = f.bytes ++ got;
  given = given;
  frames = f.frames ++ out1;
  text = f.text ++ lines1;
  sent = wrote_more w0 w1 w2 f.frames out1 f.sent sent;
  told = wrote_more t0 t1 t2 f.text lines1 f.told told;
  sent_on = no_frames;
  told_on = no_text;
  follows = λ limit plan opened.
      let now = so_far most limit plan r0 r1 w0 w1 t0 t1 n first g out0 lines0 f opened in
      piece_goes most limit plan r0 r2 f.bytes got w0 w1 t0 t1 g new out0 out1 lines0 lines1 answer (piece most limit plan r0 r2 m f.bytes got w0 w1 t0 t1 g new out0 out1 lines0 lines1 (Ok answer) now given feeds phase) not_yet;
}
