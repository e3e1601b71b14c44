-- Serving a client of the whole standard over a source and a sink.
use Rattle.std.proofs.Common.{◌≡◌, ℕ, ◌+◌, Bool, true, false, List, [], ◌∷◌, ◌++◌, Result, Ok, Err, OnOk, refl, sym, ap, subst, ◌∙◌, append_assoc, inl, inr, arith}
use Rattle.std.proofs.lemmas.List.{append-nil}
use Rattle.llrp_tree.specs.Tree.{MessageTree}
use Rattle.llrp_stream.specs.Calls.Device.{CanWrite}
use Rattle.llrp_stream.specs.Device.{SourceLog, SinkLog, Wrote}
use Rattle.llrp_stream.proofs.WritingLemmas.{wrote_more, wrote_then_failed}
use Rattle.llrp_session.specs.ReaderMachine.{Reader}
use Rattle.llrp_listing.specs.declared.outcome.ToolErr.{ToolErr}
use Rattle.llrp_listing.specs.declared.outcome.ToolErr.TheVariants.{Listing, Script, Hex, Read, Write, Bound, Broken, Memory, Peer, Strange, Early}
use Rattle.llrp_listing.specs.Copying.{ReadAll, WasGiven}
use Rattle.llrp_listing.specs.Calls.Copying.{Given, GivesNone}
use Rattle.llrp_listing.proofs.DeviceLemmas.{gave_nothing}
use Rattle.llrp_endpoints.specs.Sending.{AreFrames}
use Rattle.llrp_endpoints.specs.Serving.{Standing, waiting, broken}
use Rattle.llrp_endpoints.specs.RunServe.{ServedAll}
use Rattle.llrp_endpoints.proofs.SendingLemmas.{frames_append}
use Rattle.llrp_general.specs.Calls.Serving.{Setting, Step, AreSent, Begins, HasClosed, IsDone, RunsServeAmong, RunsServeWhole, Says, StaysOpen, count_after_one, counted, next_step}
use Rattle.llrp_general.specs.Private.Standing.{Fed, Finishes, IsFresh, Served, ServesNoted, ServesOn, Speaks, Stands, Went, answer_of, left_by, not_closed}
use Rattle.llrp_general.specs.declared.serving.Going.{Going}
use Rattle.llrp_general.specs.declared.serving.Going.TheVariants.{On, Closed, Broken as IsBroken}
use Rattle.llrp_general.specs.declared.serving.WholeReader.{WholeReader}
use Rattle.llrp_general.proofs.NoteLemmas.{is_done_more}
use Rattle.llrp_general.proofs.PieceLemmas.{begins_fewer, begins_there, stays}
use Rattle.llrp_general.proofs.StepLemmas.{due_here, steps-snoc}

-- ---- the first of what is sent

closed_begins : (s : Setting) (others : ℕ) (left : Reader) (bytes : List ℕ) (messages : List MessageTree) → HasClosed s others left bytes messages → Begins s others left bytes messages
closed_begins s others left bytes messages h =
    let next : Step = next_step s h.items h.last in
    let undone : List Step = due_here s h.items h.last in
    record {
      items = h.items ++ h.last ∷ [];
      rest = h.rest;
      are = h.are;
      done = h.done ++ next ∷ [];
      undone = undone;
      is_done = subst (λ (xs : List Step). IsDone s others (h.items ++ h.last ∷ []) xs) (sym (append_assoc h.done (next ∷ []) undone)) (is_done_more s others h.items (h.items ++ h.last ∷ []) h.done (next ∷ undone) h.is_done (steps-snoc s h.items h.last));
      unsent = [];
      sent = subst (λ (z : List MessageTree). AreSent s.reader (h.done ++ next ∷ []) z) (sym (append-nil messages)) h.sent;
      leaves = h.leaves;
    }

open_begins : (s : Setting) (others : ℕ) (left : Reader) (bytes : List ℕ) (messages : List MessageTree) (standing : Standing) → StaysOpen s others left bytes messages standing → Begins s others left bytes messages
open_begins s others left bytes messages standing h = record {
  items = h.items;
  rest = h.rest;
  are = h.are;
  done = h.done;
  undone = [];
  is_done = subst (λ (xs : List Step). IsDone s others h.items xs) (sym (append-nil h.done)) h.is_done;
  unsent = [];
  sent = subst (λ (z : List MessageTree). AreSent s.reader h.done z) (sym (append-nil messages)) h.sent;
  leaves = h.leaves;
}

went_begins : (s : Setting) (others : ℕ) (bytes : List ℕ) (messages : List MessageTree) (new : WholeReader) (going : Going) → Went s others bytes messages new going → Begins s others (left_by new) bytes messages
went_begins s others bytes messages new On h = begins_there s others bytes messages new h
went_begins s others bytes messages new Closed h = closed_begins s others (left_by new) bytes messages h
went_begins s others bytes messages new IsBroken h = open_begins s others (left_by new) bytes messages broken h

-- ---- whether more can be written

can_still : (w0 w1 : SinkLog) (messages : List MessageTree) → CanWrite w0 → Speaks messages w0 w1 (Ok tt) → CanWrite w1
can_still w0 w1 messages can spoken = omega (arith, can, ap (λ (w : SinkLog). w.failures) spoken.2.counts)

pub can_then : (w0 w1 : SinkLog) (messages : List MessageTree) (answer : Result (Unit {0}) ToolErr) → CanWrite w0 → Speaks messages w0 w1 answer → OnOk answer (CanWrite w1)
can_then w0 w1 messages (Ok u) can spoken = can_still w0 w1 messages can spoken
can_then w0 w1 messages (Err error) can spoken = tt

pub can_after : (w0 w1 : SinkLog) (messages : List MessageTree) (answer : Result Bool ToolErr) → CanWrite w0 → Speaks messages w0 w1 (Ok tt) → OnOk answer (CanWrite w1)
can_after w0 w1 messages (Ok flag) can spoken = can_still w0 w1 messages can spoken
can_after w0 w1 messages (Err error) can spoken = tt

-- ---- what is sent is written after what was sent before

module _ (s : Setting) (others : ℕ) (bytes : List ℕ) (new : WholeReader) (w0 w1 w2 : SinkLog) (messages : List MessageTree) (text : List ℕ) (frames : AreFrames messages text) (wrote : Wrote w0 w1 text) where
  -- memory ran out before
  pub ran_out : (sent0 sent1 : List MessageTree) (error : ToolErr) → Fed s others bytes messages new sent0 sent1 (Err error) → w2 ≡ w1 → ServesOn s others bytes w0 w2 new (Err error)
  ran_out sent0 sent1 error h same = rw h.0 (text, (messages, h.1, frames), subst (λ (w : SinkLog). Wrote w0 w text) (sym same) wrote)

  module _ (sent0 sent1 : List MessageTree) (none : sent0 ≡ []) (going : Going) (h : Fed s others bytes messages new sent0 sent1 (Ok going)) where
    sent_is : sent1 ≡ h.0
    sent_is = h.1 ∙ ap (λ (z : List MessageTree). z ++ h.0) none

    -- its frames with those before
    frames_then : (more : List ℕ) → AreFrames sent1 more → AreFrames (messages ++ h.0) (text ++ more)
    frames_then more are = frames_append messages h.0 text more frames (subst (λ (z : List MessageTree). AreFrames z more) sent_is are)

    -- it is not written
    pub unspoken : (error : ToolErr) → Speaks sent1 w1 w2 (Err error) → ServesOn s others bytes w0 w2 new (Err error)
    unspoken error spoken = by error spoken
      where
        begun : Begins s others (left_by new) bytes (messages ++ h.0)
        begun = went_begins s others bytes (messages ++ h.0) new going h.2

        by : (error : ToolErr) → Speaks sent1 w1 w2 (Err error) → ServesOn s others bytes w0 w2 new (Err error)
        by Write w = (
          text ++ w.0,
          text ++ w.1,
          (messages ++ h.0, begun, frames_then w.0 w.2),
          (w.3.0, ap (λ (x : List ℕ). text ++ x) w.3.1 ∙ sym (append_assoc text w.1 w.3.0)),
          wrote_then_failed w0 w1 w2 text w.1 wrote w.4,
        )
        by Memory w = (text, (messages, begins_fewer s others (left_by new) bytes messages h.0 begun, frames), subst (λ (x : SinkLog). Wrote w0 x text) (sym w) wrote)
        by Read w = absurd w
        by Bound w = absurd w
        by (Script line) w = absurd w
        by Hex w = absurd w
        by Broken w = absurd w
        by Early w = absurd w
        by (Peer status) w = absurd w
        by Strange w = absurd w
        by (Listing line reason) w = absurd w

  -- it is written
  pub spoken : (sent0 sent1 : List MessageTree) → sent0 ≡ [] → (going : Going) → Fed s others bytes messages new sent0 sent1 (Ok going) → Speaks sent1 w1 w2 (Ok tt) → ServesOn s others bytes w0 w2 new (answer_of going)
  spoken sent0 sent1 none On h w = record { messages = messages ++ h.0; text = text ++ w.0; stands = h.2; frames = frames_then sent0 sent1 none On h w.0 w.1; wrote = wrote_more w0 w1 w2 text w.0 wrote w.2 }
  spoken sent0 sent1 none Closed h w = record { messages = messages ++ h.0; text = text ++ w.0; says = h.2; frames = frames_then sent0 sent1 none Closed h w.0 w.1; wrote = wrote_more w0 w1 w2 text w.0 wrote w.2 }
  spoken sent0 sent1 none IsBroken h w = record { messages = messages ++ h.0; text = text ++ w.0; says = h.2; frames = frames_then sent0 sent1 none IsBroken h w.0 w.1; wrote = wrote_more w0 w1 w2 text w.0 wrote w.2 }

  -- either, where it goes on
  pub went_on : (sent0 sent1 : List MessageTree) → sent0 ≡ [] → (answer : Result (Unit {0}) ToolErr) → Fed s others bytes messages new sent0 sent1 (Ok On) → Speaks sent1 w1 w2 answer → ServesOn s others bytes w0 w2 new (not_closed answer)
  went_on sent0 sent1 none (Ok u) h w = spoken sent0 sent1 none On h w
  went_on sent0 sent1 none (Err error) h w = unspoken sent0 sent1 none On h error w

-- ---- other clients came

one_counted : (count before : ℕ) (came : Bool) → came ≡ true → count ≡ counted before → count_after_one count came ≡ counted (before + 1)
one_counted count before false e is = absurd cc
one_counted count before true e is = rw is (omega arith)

none_counted : (count : ℕ) (came : Bool) → came ≡ false → count_after_one count came ≡ count
none_counted count false e = refl
none_counted count true e = absurd cc

-- All that was sent since a reader and its log were so was written, whoever is served.
pub record Noted (w0 w1 : SinkLog) (count0 count1 : ℕ) (first server : WholeReader) : Type 0 where
  pub can : CanWrite w1
  pub serves : (s : Setting) (before : ℕ) (bytes : List ℕ) (w : SinkLog) → count0 ≡ counted before → Served s before bytes w w0 first → (others : ℕ) × (count1 ≡ counted others) × Served s others bytes w w1 server

module _ (w0 w1 : SinkLog) (count0 count1 count2 : ℕ) (first server : WholeReader) (f : Noted w0 w1 count0 count1 first server) (came : Bool) (after : count2 ≡ count_after_one count1 came) where
  -- no other one came, or no more are asked for
  pub no_other : came ≡ false → (s : Setting) (before : ℕ) (bytes : List ℕ) (w : SinkLog) → count0 ≡ counted before → Served s before bytes w w0 first → ServesNoted s bytes w w1 server count2 (Ok tt)
  no_other e s before bytes w is h = let k = f.serves s before bytes w is h in (k.0, after ∙ none_counted count1 came e ∙ k.1, k.2)

  module _ (w2 : SinkLog) (new : WholeReader) (e : came ≡ true) where
    -- what a note made of it
    abbrev pub Heard : Result (Unit {0}) ToolErr → Type 0
    Heard answer = (s : Setting) (others : ℕ) (bytes : List ℕ) (w : SinkLog) → Served s others bytes w w1 server → ServesOn s (others + 1) bytes w w2 new (not_closed answer)

    pub not_noted : (error : ToolErr) → Heard (Err error) → (s : Setting) (before : ℕ) (bytes : List ℕ) (w : SinkLog) → count0 ≡ counted before → Served s before bytes w w0 first → ServesNoted s bytes w w2 new count2 (Err error)
    not_noted error heard s before bytes w is h = let k = f.serves s before bytes w is h in (k.0 + 1, after ∙ one_counted count1 k.0 came e k.1, heard s k.0 bytes w k.2)

    pub one_noted : CanWrite w2 → Heard (Ok tt) → Noted w0 w2 count0 count2 first new
    one_noted can heard = record {
      can = can;
      serves = λ s before bytes w is h.
          let k = f.serves s before bytes w is h in
          (k.0 + 1, after ∙ one_counted count1 k.0 came e k.1, heard s k.0 bytes w k.2);
    }

-- ---- all that was sent so far was written

-- It was so for all that was read and for this count of others, whoever is served.
pub record Serving (r0 r1 : SourceLog) (w0 w1 : SinkLog) (n count : ℕ) (first server : WholeReader) : Type 0 where
  pub bytes : List ℕ
  pub given : Given r0 r1 n bytes
  pub can : CanWrite w1
  pub serves : (s : Setting) → IsFresh s first → (others : ℕ) × (count ≡ counted others) × Served s others bytes w0 w1 server

give_none : (log : SourceLog) → WasGiven log log []
give_none log = (0, omega arith, gave_nothing log)

module _ (s : Setting) (others : ℕ) (new : WholeReader) (r0 r1 : SourceLog) (w0 w1 : SinkLog) (bytes : List ℕ) (given : WasGiven r0 r1 bytes) where
  -- it ended with an error
  failed : (error : ToolErr) → ServesOn s others bytes w0 w1 new (Err error) → RunsServeWhole s others (left_by new) r0 r1 w0 w1 bytes (Err error)
  failed Broken t = (given, t)
  failed Write t = (given, t.0, t.1, t.2, t.3, t.4)
  failed Memory t = (given, t.0, t.1, t.2)
  failed Read t = absurd t
  failed Bound t = absurd t
  failed (Script line) t = absurd t
  failed Hex t = absurd t
  failed Early t = absurd t
  failed (Peer status) t = absurd t
  failed Strange t = absurd t
  failed (Listing line reason) t = absurd t

  -- the client closed the connection
  is_closed : (flag : Bool) → flag ≡ true → ServesOn s others bytes w0 w1 new (Ok flag) → RunsServeWhole s others (left_by new) r0 r1 w0 w1 bytes (Ok tt)
  is_closed false e t = absurd cc
  is_closed true e t = inl (given, t)

-- it goes on
still_served : (s : Setting) (others : ℕ) (bytes : List ℕ) (w0 w1 : SinkLog) (server : WholeReader) (flag : Bool) → flag ≡ false → ServesOn s others bytes w0 w1 server (Ok flag) → Served s others bytes w0 w1 server
still_served s others bytes w0 w1 server true e t = absurd cc
still_served s others bytes w0 w1 server false e t = t

-- ---- before any octets

module _ (r : SourceLog) (w0 w1 : SinkLog) (count : ℕ) (first new : WholeReader) where
  -- it did not begin
  pub start_failed : (error : ToolErr) → count ≡ 0 → ((s : Setting) → IsFresh s first → ServesOn s 0 [] w0 w1 new (Err error)) → (s : Setting) → IsFresh s first → RunsServeAmong s count (left_by new) r r w0 w1 (Err error)
  start_failed error none begun s fresh = (0, [], none, failed s 0 new r r w0 w1 [] (give_none r) error (begun s fresh))

  -- It began, and others came before any octets.
  module _ (w2 : SinkLog) (count2 : ℕ) (server : WholeReader) (none : count ≡ 0) (begun : (s : Setting) → IsFresh s first → ServesOn s 0 [] w0 w1 new (Ok false)) where
    -- what these made of it
    abbrev pub HearsFirst : Result (Unit {0}) ToolErr → Type 0
    HearsFirst answer = (s : Setting) (before : ℕ) (bytes : List ℕ) (w : SinkLog) → count ≡ counted before → Served s before bytes w w1 new → ServesNoted s bytes w w2 server count2 answer

    pub first_failed : (error : ToolErr) → HearsFirst (Err error) → (s : Setting) → IsFresh s first → RunsServeAmong s count2 (left_by server) r r w0 w2 (Err error)
    first_failed error hears s fresh =
        let k = hears s 0 [] w0 none (begun s fresh) in
        (k.0, [], k.1, failed s k.0 server r r w0 w2 [] (give_none r) error k.2)

-- ---- in the loop

module _ (r0 r1 : SourceLog) (w0 w1 : SinkLog) (n count : ℕ) (first server : WholeReader) (f : Serving r0 r1 w0 w1 n count first server) where
  all_written : (s : Setting) (others : ℕ) → (h : Served s others f.bytes w0 w1 server) → ServedAll (Says s others (left_by server)) f.bytes waiting w0 w1
  all_written s others h = record { messages = h.messages; text = h.text; says = stays s others f.bytes h.messages server waiting h.stands h.stands.decoder.unfinished; frames = h.frames; wrote = h.wrote }

  -- no piece came
  pub read_none : (s : Setting) → IsFresh s first → (r2 : SourceLog) (error : ToolErr) → GivesNone r0 r2 f.bytes error → RunsServeAmong s count (left_by server) r0 r2 w0 w1 (Err error)
  read_none s fresh r2 error (inl none) = let k = f.serves s fresh in rw none.0 (k.0, f.bytes, k.1, ((none.1, none.2), all_written s k.0 k.2))
  read_none s fresh r2 error (inr none) = let k = f.serves s fresh in rw none.0 (k.0, f.bytes, k.1, (none.1, all_written s k.0 k.2))

  -- the input ended
  pub at_the_end : (s : Setting) → IsFresh s first → (r2 : SourceLog) (answer : Result (Unit {0}) ToolErr) → ReadAll r0 r2 f.bytes
      → ((s : Setting) (others : ℕ) (bytes : List ℕ) (messages : List MessageTree) → Stands s others bytes messages server → Finishes s others bytes messages server answer) → RunsServeAmong s count (left_by server) r0 r2 w0 w1 answer
  at_the_end s fresh r2 answer all finishes = (k.0, f.bytes, k.1, by answer (finishes s k.0 f.bytes h.messages h.stands))
    where
      k : (others : ℕ) × (count ≡ counted others) × Served s others f.bytes w0 w1 server
      k = f.serves s fresh

      h : Served s k.0 f.bytes w0 w1 server
      h = k.2

      by : (answer : Result (Unit {0}) ToolErr) → Finishes s k.0 f.bytes h.messages server answer → RunsServeWhole s k.0 (left_by server) r0 r2 w0 w1 f.bytes answer
      by (Ok u) t = inr (all, record { messages = h.messages; text = h.text; says = t; frames = h.frames; wrote = h.wrote })
      by (Err Early) t = (all, record { messages = h.messages; text = h.text; says = t; frames = h.frames; wrote = h.wrote })
      by (Err Broken) t = absurd t
      by (Err Memory) t = absurd t
      by (Err Read) t = absurd t
      by (Err Write) t = absurd t
      by (Err Bound) t = absurd t
      by (Err (Script line)) t = absurd t
      by (Err Hex) t = absurd t
      by (Err (Peer status)) t = absurd t
      by (Err Strange) t = absurd t
      by (Err (Listing line reason)) t = absurd t

  -- a piece came
  module _ (r2 : SourceLog) (w2 : SinkLog) (m : ℕ) (got : List ℕ) (new : WholeReader) (given : Given r0 r2 m (f.bytes ++ got)) where
    was_given : WasGiven r0 r2 (f.bytes ++ got)
    was_given = (m, given.few, given.gave)

    -- what it made of it
    abbrev pub TakesPiece : Result Bool ToolErr → Type 0
    TakesPiece answer = (s : Setting) (others : ℕ) (bytes : List ℕ) (w : SinkLog) → Served s others bytes w w1 server → ServesOn s others (bytes ++ got) w w2 new answer

    pub piece_failed : (s : Setting) → IsFresh s first → (error : ToolErr) → TakesPiece (Err error) → RunsServeAmong s count (left_by new) r0 r2 w0 w2 (Err error)
    piece_failed s fresh error takes =
        let k = f.serves s fresh in
        (k.0, f.bytes ++ got, k.1, failed s k.0 new r0 r2 w0 w2 (f.bytes ++ got) was_given error (takes s k.0 f.bytes w0 k.2))

    pub piece_closed : (s : Setting) → IsFresh s first → (flag : Bool) → flag ≡ true → TakesPiece (Ok flag) → RunsServeAmong s count (left_by new) r0 r2 w0 w2 (Ok tt)
    piece_closed s fresh flag e takes =
        let k = f.serves s fresh in
        (k.0, f.bytes ++ got, k.1, is_closed s k.0 new r0 r2 w0 w2 (f.bytes ++ got) was_given flag e (takes s k.0 f.bytes w0 k.2))

    -- it goes on, and other clients came then
    module _ (w3 : SinkLog) (count3 : ℕ) (last : WholeReader) (flag : Bool) (e : flag ≡ false) (takes : TakesPiece (Ok flag)) where
      -- what these made of it
      abbrev pub HearsThen : Result (Unit {0}) ToolErr → Type 0
      HearsThen answer = (s : Setting) (before : ℕ) (bytes : List ℕ) (w : SinkLog) → count ≡ counted before → Served s before bytes w w2 new → ServesNoted s bytes w w3 last count3 answer

      heard_then : (answer : Result (Unit {0}) ToolErr) → HearsThen answer → (s : Setting) → IsFresh s first → ServesNoted s (f.bytes ++ got) w0 w3 last count3 answer
      heard_then answer hears s fresh =
          let k = f.serves s fresh in
          hears s k.0 (f.bytes ++ got) w0 k.1 (still_served s k.0 (f.bytes ++ got) w0 w2 new flag e (takes s k.0 f.bytes w0 k.2))

      pub then_failed : (s : Setting) → IsFresh s first → (error : ToolErr) → HearsThen (Err error) → RunsServeAmong s count3 (left_by last) r0 r2 w0 w3 (Err error)
      then_failed s fresh error hears =
          let k = heard_then (Err error) hears s fresh in
          (k.0, f.bytes ++ got, k.1, failed s k.0 last r0 r2 w0 w3 (f.bytes ++ got) was_given error k.2)

      pub piece_open : CanWrite w3 → HearsThen (Ok tt) → Serving r0 r2 w0 w3 m count3 first last
      piece_open can hears = record { bytes = f.bytes ++ got; given = given; can = can; serves = λ s fresh. heard_then (Ok tt) hears s fresh }

-- ---- where no other client came

pub served_alone : (s : Setting) (count : ℕ) (left : Reader) (r0 r1 : SourceLog) (w0 w1 : SinkLog) (answer : Result (Unit {0}) ToolErr) → count ≡ 0 → RunsServeAmong s count left r0 r1 w0 w1 answer → (bytes : List ℕ) × RunsServeWhole s 0 left r0 r1 w0 w1 bytes answer
served_alone s count left r0 r1 w0 w1 answer none k =
    let is : k.0 ≡ 0 = omega (arith, none, k.2) in
    (k.1, subst (λ (others : ℕ). RunsServeWhole s others left r0 r1 w0 w1 k.1 answer) is k.3)
