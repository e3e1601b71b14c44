-- Serving a client over a source and a sink.
use Rattle.std.proofs.Common.{◌≡◌, ℕ, Bool, true, false, List, [], ◌++◌, Result, Ok, Err, sym, ap, ◌∙◌, append_assoc, inl, inr, arith}
use Rattle.llrp_tree.specs.Tree.{MessageTree}
use Rattle.llrp_stream.specs.Device.{SourceLog, SinkLog, Wrote}
use Rattle.llrp_session.specs.ReaderMachine.{Reader}
use Rattle.llrp_listing.specs.declared.outcome.ToolErr.{ToolErr}
use Rattle.llrp_listing.specs.declared.outcome.ToolErr.TheVariants.{Listing, Script, Hex, Read, Write, Bound, Broken, Memory, Peer, Strange, Early}
use Rattle.llrp_endpoints.specs.declared.script.Entry.{Entry}
use Rattle.llrp_listing.specs.Copying.{ReadAll, WasGiven}
use Rattle.llrp_listing.specs.Calls.Copying.{Given, GivesNone, Writes}
use Rattle.llrp_endpoints.specs.Serving.{Standing, waiting}
use Rattle.llrp_endpoints.specs.Sending.{AreFrames}
use Rattle.llrp_endpoints.specs.Private.Server.{Starts, Feeds, Finishes}
use Rattle.llrp_endpoints.specs.RunServe.{FirstFrames, RunsSaying, ServedAll}
use Rattle.llrp_endpoints.proofs.SendingLemmas.{frames_append}
use Rattle.llrp_stream.proofs.WritingLemmas.{wrote_nothing, wrote_more, wrote_then_failed}
use Rattle.llrp_listing.proofs.DeviceLemmas.{gave_nothing}
use Rattle.llrp_endpoints.proofs.InventoryLemmas.{added as nothing_before}

-- What was served and written to these bytes.
pub record SoFar {S : Type 0} (Opened : List ℕ → List MessageTree → S → Type 0) (Says : List ℕ → List MessageTree → Standing → Type 0) (bytes : List ℕ) (w0 w1 : SinkLog) (s : S) (out : List ℕ) : Type 0 where
  pub messages : List MessageTree
  pub text : List ℕ
  pub opened : Opened bytes messages s
  pub waits : Says bytes messages waiting
  pub frames : AreFrames messages text
  pub wrote : Wrote w0 w1 text
  pub handed_on : out ≡ []

-- The same to all that was read, of whatever reader and script served when it began.
pub record Following {S : Type 0} (MayFeed : S → Type 0) (Fresh : Reader → List Entry → S → Type 0) (Opened : Reader → List Entry → List ℕ → List MessageTree → S → Type 0) (Says : Reader → List Entry → List ℕ → List MessageTree → Standing → Type 0)
    (r0 r1 : SourceLog) (w0 w1 : SinkLog) (n : ℕ) (first s : S) (out : List ℕ) : Type 0 where
  pub bytes : List ℕ
  pub given : Given r0 r1 n bytes
  pub text : List ℕ
  pub wrote : Wrote w0 w1 text
  pub handed_on : out ≡ []
  pub started : MayFeed s
  pub serves : (reader : Reader) (entries : List Entry) → Fresh reader entries first → (messages : List MessageTree) × Opened reader entries bytes messages s × Says reader entries bytes messages waiting × AreFrames messages text

-- ---- what was given

give_none : (log : SourceLog) → WasGiven log log []
give_none log = (0, omega arith, gave_nothing log)

-- ---- frames of what was said

module _ (Says : List ℕ → List MessageTree → Standing → Type 0) (Begins : List ℕ → List MessageTree → Type 0) where
  -- ---- a write that fails

  write_fails : (r0 r1 : SourceLog) (w0 w1 w2 : SinkLog) (bytes before out : List ℕ) (error : ToolErr) → WasGiven r0 r1 bytes → FirstFrames Begins bytes (before ++ out) → Wrote w0 w1 before
      → Writes out w1 w2 (Err error) → RunsSaying Says Begins r0 r1 w0 w2 bytes (Err error)
  write_fails r0 r1 w0 w1 w2 bytes before out Write given begins wrote w =
      (given, before ++ out, before ++ w.0, begins, (w.1.0, ap (λ (x : List ℕ). before ++ x) w.1.1 ∙ sym (append_assoc before w.0 w.1.0)), wrote_then_failed w0 w1 w2 before w.0 wrote w.2)
  write_fails r0 r1 w0 w1 w2 bytes before out Memory given begins wrote w = absurd w.2
  write_fails r0 r1 w0 w1 w2 bytes before out Read given begins wrote w = absurd w.2
  write_fails r0 r1 w0 w1 w2 bytes before out Bound given begins wrote w = absurd w.2
  write_fails r0 r1 w0 w1 w2 bytes before out (Script line) given begins wrote w = absurd w.2
  write_fails r0 r1 w0 w1 w2 bytes before out Hex given begins wrote w = absurd w.2
  write_fails r0 r1 w0 w1 w2 bytes before out Broken given begins wrote w = absurd w.2
  write_fails r0 r1 w0 w1 w2 bytes before out Early given begins wrote w = absurd w.2
  write_fails r0 r1 w0 w1 w2 bytes before out (Peer status) given begins wrote w = absurd w.2
  write_fails r0 r1 w0 w1 w2 bytes before out Strange given begins wrote w = absurd w.2
  write_fails r0 r1 w0 w1 w2 bytes before out (Listing line reason) given begins wrote w = absurd w.2

module _ {S : Type 0} (Opened : List ℕ → List MessageTree → S → Type 0) (Says : List ℕ → List MessageTree → Standing → Type 0) (Begins : List ℕ → List MessageTree → Type 0) where
  -- ---- the start

  pub begins_start : (s : S) (old out : List ℕ) (answer : Result (Unit {0}) ToolErr) → old ≡ [] → Starts Opened Says Begins s old out answer → FirstFrames Begins [] out
  begins_start s old out (Ok u) none h = (h.0, h.2, nothing_before h.0 old out none h.1)
  begins_start s old out (Err e) none h = (h.0, h.2, nothing_before h.0 old out none h.1)

  pub start_unwritten : (r : SourceLog) (w0 w1 : SinkLog) (s : S) (old out : List ℕ) (answer : Result (Unit {0}) ToolErr) (error : ToolErr) → old ≡ [] → Starts Opened Says Begins s old out answer
      → Writes out w0 w1 (Err error) → (bytes : List ℕ) × RunsSaying Says Begins r r w0 w1 bytes (Err error)
  start_unwritten r w0 w1 s old out answer error none h w = ([], write_fails Says Begins r r w0 w0 w1 [] [] out error (give_none r) (begins_start s old out answer none h) (wrote_nothing w0) w)

  pub start_failed : (r : SourceLog) (w0 w1 : SinkLog) (s : S) (old out : List ℕ) (error : ToolErr) → old ≡ [] → Starts Opened Says Begins s old out (Err error)
      → Wrote w0 w1 out → (bytes : List ℕ) × RunsSaying Says Begins r r w0 w1 bytes (Err error)
  start_failed r w0 w1 s old out error none h w = ([], rw h.3 (give_none r, out, begins_start s old out (Err error) none h, w))

  -- ---- all that was said so far was written

  pub wrote_so_far : (bytes : List ℕ) (w0 w1 : SinkLog) (s : S) (out : List ℕ) (f : SoFar Opened Says bytes w0 w1 s out) → ServedAll Says bytes waiting w0 w1
  wrote_so_far bytes w0 w1 s out f = record { messages = f.messages; text = f.text; says = f.waits; frames = f.frames; wrote = f.wrote }

  -- no piece came
  pub read_none : (r0 r1 : SourceLog) (bytes : List ℕ) (w0 w1 : SinkLog) (s : S) (out : List ℕ) (error : ToolErr) → SoFar Opened Says bytes w0 w1 s out → GivesNone r0 r1 bytes error → (bytes : List ℕ) × RunsSaying Says Begins r0 r1 w0 w1 bytes (Err error)
  read_none r0 r1 bytes w0 w1 s out error f (inl none) = rw none.0 (bytes, ((none.1, none.2), wrote_so_far bytes w0 w1 s out f))
  read_none r0 r1 bytes w0 w1 s out error f (inr none) = rw none.0 (bytes, (none.1, wrote_so_far bytes w0 w1 s out f))

-- ---- a piece

-- A piece was read, and fed.
pub record Piece {S : Type 0} (Opened : List ℕ → List MessageTree → S → Type 0) (Says : List ℕ → List MessageTree → Standing → Type 0) (Begins : List ℕ → List MessageTree → Type 0)
    (r0 r1 : SourceLog) (bytes got : List ℕ) (w0 w1 : SinkLog) (s new : S) (old out : List ℕ) (answer : Result Bool ToolErr) : Type 0 where
  pub before : SoFar Opened Says bytes w0 w1 s old
  pub given : WasGiven r0 r1 (bytes ++ got)
  pub feeds : Feeds Opened Says Begins bytes before.messages got new old out answer

module _ {S : Type 0} (Opened : List ℕ → List MessageTree → S → Type 0) (Says : List ℕ → List MessageTree → Standing → Type 0) (Begins : List ℕ → List MessageTree → Type 0) where
  pub piece : (r0 r1 : SourceLog) (n : ℕ) (bytes got : List ℕ) (w0 w1 : SinkLog) (s new : S) (old out : List ℕ) (answer : Result Bool ToolErr) → SoFar Opened Says bytes w0 w1 s old → Given r0 r1 n (bytes ++ got)
      → ((before : List ℕ) (messages : List MessageTree) → Opened before messages s → Feeds Opened Says Begins before messages got new old out answer) → Piece Opened Says Begins r0 r1 bytes got w0 w1 s new old out answer
  piece r0 r1 n bytes got w0 w1 s new old out answer f given feeds = record { before = f; given = (n, given.few, given.gave); feeds = feeds bytes f.messages f.opened }

  -- the frames of all that was said
  all_frames : (r0 r1 : SourceLog) (bytes got : List ℕ) (w0 w1 : SinkLog) (s new : S) (old out : List ℕ) (answer : Result Bool ToolErr) (p : Piece Opened Says Begins r0 r1 bytes got w0 w1 s new old out answer)
      → AreFrames (p.before.messages ++ p.feeds.0) (p.before.text ++ out)
  all_frames r0 r1 bytes got w0 w1 s new old out answer p =
      frames_append p.before.messages p.feeds.0 p.before.text out p.before.frames (nothing_before p.feeds.0 old out p.before.handed_on p.feeds.1)

  begins_piece : (r0 r1 : SourceLog) (bytes got : List ℕ) (w0 w1 : SinkLog) (s new : S) (old out : List ℕ) (answer : Result Bool ToolErr) (p : Piece Opened Says Begins r0 r1 bytes got w0 w1 s new old out answer)
      → FirstFrames Begins (bytes ++ got) (p.before.text ++ out)
  begins_piece r0 r1 bytes got w0 w1 s new old out answer p = (p.before.messages ++ p.feeds.0, p.feeds.2, all_frames r0 r1 bytes got w0 w1 s new old out answer p)

  pub piece_unwritten : (r0 r1 : SourceLog) (bytes got : List ℕ) (w0 w1 w2 : SinkLog) (s new : S) (old out : List ℕ) (answer : Result Bool ToolErr) (error : ToolErr) → Piece Opened Says Begins r0 r1 bytes got w0 w1 s new old out answer
      → Writes out w1 w2 (Err error) → (bytes : List ℕ) × RunsSaying Says Begins r0 r1 w0 w2 bytes (Err error)
  piece_unwritten r0 r1 bytes got w0 w1 w2 s new old out answer error p w = (
    bytes ++ got,
    write_fails Says Begins r0 r1 w0 w1 w2 (bytes ++ got) p.before.text out error
        p.given (begins_piece r0 r1 bytes got w0 w1 s new old out answer p) p.before.wrote w,
  )

  pub piece_failed : (r0 r1 : SourceLog) (bytes got : List ℕ) (w0 w1 w2 : SinkLog) (s new : S) (old out : List ℕ) (error : ToolErr) → Piece Opened Says Begins r0 r1 bytes got w0 w1 s new old out (Err error)
      → Wrote w1 w2 out → (bytes : List ℕ) × RunsSaying Says Begins r0 r1 w0 w2 bytes (Err error)
  piece_failed r0 r1 bytes got w0 w1 w2 s new old out error p w = (bytes ++ got, by_error error p)
    where
      by_error : (error : ToolErr) (p : Piece Opened Says Begins r0 r1 bytes got w0 w1 s new old out (Err error)) → RunsSaying Says Begins r0 r1 w0 w2 (bytes ++ got) (Err error)
      by_error Broken p = (
        p.given,
        record {
          messages = p.before.messages ++ p.feeds.0;
          text = p.before.text ++ out;
          says = p.feeds.3;
          frames = all_frames r0 r1 bytes got w0 w1 s new old out (Err Broken) p;
          wrote = wrote_more w0 w1 w2 p.before.text out p.before.wrote w;
        },
      )
      by_error Memory p = (p.given, p.before.text ++ out, begins_piece r0 r1 bytes got w0 w1 s new old out (Err Memory) p, wrote_more w0 w1 w2 p.before.text out p.before.wrote w)
      by_error (Listing line reason) p = absurd p.feeds.3
      by_error (Script line) p = absurd p.feeds.3
      by_error Hex p = absurd p.feeds.3
      by_error Read p = absurd p.feeds.3
      by_error Write p = absurd p.feeds.3
      by_error Bound p = absurd p.feeds.3
      by_error Early p = absurd p.feeds.3
      by_error (Peer status) p = absurd p.feeds.3
      by_error Strange p = absurd p.feeds.3

  pub piece_closed : (r0 r1 : SourceLog) (bytes got : List ℕ) (w0 w1 w2 : SinkLog) (s new : S) (old out : List ℕ) (answer : Bool) (u : Unit {0}) → Piece Opened Says Begins r0 r1 bytes got w0 w1 s new old out (Ok answer) → answer ≡ true
      → Wrote w1 w2 out → (bytes : List ℕ) × RunsSaying Says Begins r0 r1 w0 w2 bytes (Ok u)
  piece_closed r0 r1 bytes got w0 w1 w2 s new old out false u p is w = absurd cc
  piece_closed r0 r1 bytes got w0 w1 w2 s new old out true u p is w = (
    bytes ++ got,
    inl (
      p.given,
      record {
        messages = p.before.messages ++ p.feeds.0;
        text = p.before.text ++ out;
        says = p.feeds.3;
        frames = all_frames r0 r1 bytes got w0 w1 s new old out (Ok true) p;
        wrote = wrote_more w0 w1 w2 p.before.text out p.before.wrote w;
      },
    ),
  )

  -- serving goes on
  piece_goes : (r0 r1 : SourceLog) (bytes got : List ℕ) (w0 w1 : SinkLog) (s new : S) (old out : List ℕ) (answer : Bool) (p : Piece Opened Says Begins r0 r1 bytes got w0 w1 s new old out (Ok answer)) → answer ≡ false
      → (messages : List MessageTree) × Opened (bytes ++ got) messages new × Says (bytes ++ got) messages waiting × AreFrames messages (p.before.text ++ out)
  piece_goes r0 r1 bytes got w0 w1 s new old out true p not_yet = absurd cc
  piece_goes r0 r1 bytes got w0 w1 s new old out false p not_yet = (p.before.messages ++ p.feeds.0, p.feeds.3.0, p.feeds.3.1, all_frames r0 r1 bytes got w0 w1 s new old out (Ok false) p)

  -- ---- the end of the input

  pub at_the_end : (r0 r1 : SourceLog) (bytes : List ℕ) (w0 w1 : SinkLog) (s : S) (out : List ℕ) (answer : Result (Unit {0}) ToolErr) → SoFar Opened Says bytes w0 w1 s out → ReadAll r0 r1 bytes
      → ((bytes : List ℕ) (messages : List MessageTree) → Opened bytes messages s → Finishes Says bytes messages answer)
      → (bytes : List ℕ) × RunsSaying Says Begins r0 r1 w0 w1 bytes answer
  at_the_end r0 r1 bytes w0 w1 s out answer f all finishes = (bytes, by_answer answer (finishes bytes f.messages f.opened))
    where
      by_answer : (answer : Result (Unit {0}) ToolErr) → Finishes Says bytes f.messages answer → RunsSaying Says Begins r0 r1 w0 w1 bytes answer
      by_answer (Ok u) h = inr (all, record { messages = f.messages; text = f.text; says = h; frames = f.frames; wrote = f.wrote })
      by_answer (Err Early) h = (all, record { messages = f.messages; text = f.text; says = h; frames = f.frames; wrote = f.wrote })
      by_answer (Err Broken) h = absurd h
      by_answer (Err (Peer status)) h = absurd h
      by_answer (Err Strange) h = absurd h
      by_answer (Err Memory) h = absurd h
      by_answer (Err (Listing line reason)) h = absurd h
      by_answer (Err (Script line)) h = absurd h
      by_answer (Err Hex) h = absurd h
      by_answer (Err Read) h = absurd h
      by_answer (Err Write) h = absurd h
      by_answer (Err Bound) h = absurd h

-- ---- whatever reader and script serve

module _ {S : Type 0} (MayFeed : S → Type 0) (Fresh : Reader → List Entry → S → Type 0) (Opened : Reader → List Entry → List ℕ → List MessageTree → S → Type 0) (Says : Reader → List Entry → List ℕ → List MessageTree → Standing → Type 0) (Begins : Reader → List Entry → List ℕ → List MessageTree → Type 0) where
  pub started : (r : SourceLog) (w0 w1 : SinkLog) (n : ℕ) (first s : S) (old out left : List ℕ) (u : Unit {0}) → n ≡ 0 → old ≡ []
      → ((reader : Reader) (entries : List Entry) → Fresh reader entries first → Starts (Opened reader entries) (Says reader entries) (Begins reader entries) s old out (Ok u)) → MayFeed s → Wrote w0 w1 out → left ≡ []
      → Following MayFeed Fresh Opened Says r r w0 w1 n first s left
  started r w0 w1 n first s old out left u unread none starts begun w empty = record {
    bytes = [];
    given = rw unread (record { gave = gave_nothing r; few = omega arith });
    text = out;
    wrote = w;
    handed_on = empty;
    started = begun;
    serves = λ reader entries fresh. let h = starts reader entries fresh in (h.0, h.3.0, h.3.1, nothing_before h.0 old out none h.1);
  }

  pub so_far : (reader : Reader) (entries : List Entry) (r0 r1 : SourceLog) (w0 w1 : SinkLog) (n : ℕ) (first s : S) (out : List ℕ) (f : Following MayFeed Fresh Opened Says r0 r1 w0 w1 n first s out) → Fresh reader entries first
      → SoFar (Opened reader entries) (Says reader entries) f.bytes w0 w1 s out
  so_far reader entries r0 r1 w0 w1 n first s out f fresh =
      let now = f.serves reader entries fresh in
      record {
        messages = now.0;
        text = f.text;
        opened = now.1;
        waits = now.2;
        frames = now.3;
        wrote = f.wrote;
        handed_on = f.handed_on;
      }

  pub piece_open : (r0 r1 r2 : SourceLog) (w0 w1 w2 : SinkLog) (n m : ℕ) (first s new : S) (old out left got : List ℕ) (answer : Bool) (f : Following MayFeed Fresh Opened Says r0 r1 w0 w1 n first s old) → Given r0 r2 m (f.bytes ++ got)
      → ((reader : Reader) (entries : List Entry) (before : List ℕ) (messages : List MessageTree) → Opened reader entries before messages s → Feeds (Opened reader entries) (Says reader entries) (Begins reader entries) before messages got new old out (Ok answer))
      → MayFeed new → answer ≡ false → Wrote w1 w2 out → left ≡ [] → Following MayFeed Fresh Opened Says r0 r2 w0 w2 m first new left
  unfolding piece so_far
  piece_open r0 r1 r2 w0 w1 w2 n m first s new old out left got answer f given feeds begun not_yet w empty = record {
    bytes = f.bytes ++ got;
    given = given;
    text = f.text ++ out;
    wrote = wrote_more w0 w1 w2 f.text out f.wrote w;
    handed_on = empty;
    started = begun;
    serves = λ reader entries fresh.
        let now = so_far reader entries r0 r1 w0 w1 n first s old f fresh in
        piece_goes (Opened reader entries) (Says reader entries) (Begins reader entries) r0 r2 f.bytes got w0 w1 s new old out answer
        (piece (Opened reader entries) (Says reader entries) (Begins reader entries) r0 r2 m f.bytes got w0 w1 s new old out (Ok answer) now given (feeds reader entries)) not_yet;
  }
