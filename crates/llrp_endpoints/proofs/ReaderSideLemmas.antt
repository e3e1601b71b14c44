-- The reader's side of a connection.
use Rattle.std.proofs.Common.{◌≡◌, ℕ, ◌-◌, ◌≤◌, Bool, true, false, List, [], ◌∷◌, ◌++◌, length, Result, Ok, Err, sym, ap, subst, ◌∙◌, append_assoc, inl, inr, arith}
use Rattle.std.proofs.lemmas.List.{append-nil}
use Rattle.llrp_listing.specs.Copying.{WasGiven}
use Rattle.llrp_tree.specs.Tree.{MessageTree}
use Rattle.llrp_stream.specs.Device.{SourceLog}
use Rattle.llrp_stream.proofs.RunLemmas.{items_grow}
use Rattle.llrp_session.specs.ReaderMachine.{Reader}
use Rattle.llrp_listing.specs.declared.outcome.ToolErr.{ToolErr}
use Rattle.llrp_listing.specs.declared.outcome.ToolErr.TheVariants.{Listing, Script, Hex, Read, Write, Bound, Broken, Memory, Peer, Strange, Early}
use Rattle.llrp_endpoints.specs.declared.script.Entry.{Entry}
use Rattle.llrp_endpoints.specs.declared.serving.Serving.{Serving}
use Rattle.llrp_listing.specs.Calls.Copying.{Given}
use Rattle.llrp_endpoints.specs.Private.EndsStand.{spoken, heard, IsServing, ReadsNone, ReaderStands, ReaderStops}
use Rattle.llrp_endpoints.specs.RunLoop.{BothEnds, Traffic, ReaderGoes}
use Rattle.llrp_endpoints.specs.Sending.{AreFrames, Adds}
use Rattle.llrp_endpoints.specs.Serving.{HasClosed}
use Rattle.llrp_endpoints.specs.Calls.ServingStands.{IsOpen, IsClosed, Starts, Feeds}
use Rattle.llrp_endpoints.proofs.HearingLemmas.{Hearing, hearing_none, hearing_more, was_given}
use Rattle.llrp_endpoints.proofs.SendingLemmas.{frames_append}

-- ---- what it says

frames_behind : (a b : List MessageTree) (written old new : List ℕ) → AreFrames a (written ++ old) → Adds b old new → AreFrames (a ++ b) (written ++ new)
frames_behind a b written old new p q =
    subst (λ (x : List ℕ). AreFrames (a ++ b) x) (append_assoc written old q.text ∙ ap (λ (x : List ℕ). written ++ x) (sym q.whole)) (frames_append a b (written ++ old) q.text p q.frames)

pub reader_goes : (e : BothEnds) (down up : Traffic) (s : Serving) → ReaderStands e down.written up.read s down.unwritten → ReaderGoes e down up
reader_goes e down up s h = by_serving h.serving
  where
    by_serving : IsServing e.reader e.entries up.read h.messages s → ReaderGoes e down up
    by_serving (inl o) = inl (record { messages = h.messages; serves = o.stands.stays; frames = h.frames })
    by_serving (inr c) = inr (record { messages = h.messages; serves = c.1; frames = h.frames })

-- ---- the start

pub reader_starts : (e : BothEnds) (core : Reader) (entries : List Entry) (s : Serving) (old out : List ℕ) (u : Unit {0}) → e.reader ≡ core → e.entries ≡ entries → old ≡ [] → Starts core entries s old out (Ok u) → ReaderStands e [] [] s out
reader_starts e core entries s old out u is are none h = record {
  messages = h.0;
  serving = rw (is, are) (inl h.2);
  frames = subst (λ (x : List ℕ). AreFrames h.0 x) (sym (h.1.whole ∙ ap (λ (x : List ℕ). x ++ h.1.text) none)) h.1.frames;
}

-- ---- a piece

-- what a feed of serving does
pub record Fed (s new : Serving) (piece old out : List ℕ) (answer : Result Bool ToolErr) : Type 0 where
  pub feeds : (reader : Reader) (entries : List Entry) (bytes : List ℕ) (messages : List MessageTree) → IsOpen reader entries bytes messages s → Feeds reader entries bytes messages piece new old out answer
  pub closed : IsClosed s → (answer ≡ Ok true) × (new ≡ s) × (out ≡ old)

closed_more : (reader : Reader) (entries : List Entry) (bytes more : List ℕ) (messages : List MessageTree) → HasClosed reader entries bytes messages → HasClosed reader entries (bytes ++ more) messages
closed_more reader entries bytes more messages h = record {
  items = h.items;
  last = h.last;
  rest = h.rest ++ more;
  are = (items_grow reader.limit).by_bytes bytes (h.items ++ h.last ∷ []) h.rest more h.are;
  none_closes = h.none_closes;
  closes = h.closes;
  messages_are = h.messages_are;
}

pub reader_takes : (e : BothEnds) (written read piece old out : List ℕ) (s new : Serving) (b : Bool) → ReaderStands e written read s old → Fed s new piece old out (Ok b) → ReaderStands e written (read ++ piece) new out
reader_takes e written read piece old out s new b h f = by_serving h.serving
  where
    by_answer : (b : Bool) → Feeds e.reader e.entries read h.messages piece new old out (Ok b) → ReaderStands e written (read ++ piece) new out
    by_answer false w = record { messages = h.messages ++ w.0; serving = inl (record { stands = w.2; phase = w.3 }); frames = frames_behind h.messages w.0 written old out h.frames w.1 }
    by_answer true w = record { messages = h.messages ++ w.0; serving = inr (w.3, w.2); frames = frames_behind h.messages w.0 written old out h.frames w.1 }

    by_serving : IsServing e.reader e.entries read h.messages s → ReaderStands e written (read ++ piece) new out
    by_serving (inl o) = by_answer b (f.feeds e.reader e.entries read h.messages o)
    by_serving (inr c) =
        let same = f.closed c.0 in
        record {
          messages = h.messages;
          serving = inr (subst IsClosed (sym same.1) c.0, closed_more e.reader e.entries read piece h.messages c.1);
          frames = subst (λ (x : List ℕ). AreFrames h.messages (written ++ x)) (sym same.2) h.frames;
        }

-- a feed ends it
pub reader_fails : (e : BothEnds) (r0 r1 : SourceLog) (down up : Traffic) (read piece old out : List ℕ) (s new : Serving) (error : ToolErr) → ReaderStands e down.written read s old → Fed s new piece old out (Err error) → WasGiven r0 r1 (read ++ piece)
    → ReaderStops e r0 r1 (spoken down out) (heard up (read ++ piece)) error
reader_fails e r0 r1 down up read piece old out s new error h f given = by_serving h.serving
  where
    by_error : (error : ToolErr) → Feeds e.reader e.entries read h.messages piece new old out (Err error) → ReaderStops e r0 r1 (spoken down out) (heard up (read ++ piece)) error
    by_error Broken w = (given, record { messages = h.messages ++ w.0; serves = w.2; frames = frames_behind h.messages w.0 down.written old out h.frames w.1 })
    by_error Memory w = (given, (h.messages ++ w.0, w.2, frames_behind h.messages w.0 down.written old out h.frames w.1))
    by_error (Listing line reason) w = absurd w.2
    by_error (Script line) w = absurd w.2
    by_error Hex w = absurd w.2
    by_error Read w = absurd w.2
    by_error Write w = absurd w.2
    by_error Bound w = absurd w.2
    by_error Early w = absurd w.2
    by_error (Peer status) w = absurd w.2
    by_error Strange w = absurd w.2

    by_serving : IsServing e.reader e.entries read h.messages s → ReaderStops e r0 r1 (spoken down out) (heard up (read ++ piece)) error
    by_serving (inl o) = by_error error (f.feeds e.reader e.entries read h.messages o)
    by_serving (inr c) = let never = (f.closed c.0).0 in absurd cc

-- no read gives bytes
pub reader_unread : (e : BothEnds) (r0 r1 : SourceLog) (down up : Traffic) (s : Serving) (error : ToolErr) → ReaderStands e down.written up.read s down.unwritten → ReadsNone r0 r1 up.read error → ReaderStops e r0 r1 down up error
reader_unread e r0 r1 down up s error h n = by_error error n
  where
    by_error : (error : ToolErr) → ReadsNone r0 r1 up.read error → ReaderStops e r0 r1 down up error
    by_error Read n = (n, reader_goes e down up s h)
    by_error Bound n = (n, reader_goes e down up s h)
    by_error Early n = (n, reader_goes e down up s h)
    by_error Write n = absurd n
    by_error Broken n = absurd n
    by_error Memory n = absurd n
    by_error (Peer status) n = absurd n
    by_error Strange n = absurd n
    by_error (Listing line reason) n = absurd n
    by_error (Script line) n = absurd n
    by_error Hex n = absurd n

-- ---- the loop

-- what it heard so far of this many bytes
pub record ReaderSoFar (e : BothEnds) (r0 r1 : SourceLog) (written read : List ℕ) (count left reads1 : ℕ) (s : Serving) (out : List ℕ) : Type 0 where
  pub bytes : List ℕ
  pub hearing : Hearing r0 r1 read bytes count left reads1
  pub stands : ReaderStands e written (read ++ bytes) s out

pub reader_begins : (e : BothEnds) (r0 r1 : SourceLog) (written read : List ℕ) (count reads : ℕ) (s : Serving) (out : List ℕ) → ReaderStands e written read s out → Given r0 r1 reads read → ReaderSoFar e r0 r1 written read count count reads s out
reader_begins e r0 r1 written read count reads s out h g = record { bytes = []; hearing = hearing_none r0 r1 read count reads g; stands = subst (λ (x : List ℕ). ReaderStands e written x s out) (sym (append-nil read)) h }

pub reader_steps : (e : BothEnds) (r0 r1 r2 : SourceLog) (written read piece : List ℕ) (count left n reads1 reads2 : ℕ) (s new : Serving) (old out : List ℕ) (b : Bool) → ReaderSoFar e r0 r1 written read count left reads1 s old
    → ((r0 : SourceLog) (before : List ℕ) → Given r0 r1 reads1 before → Given r0 r2 reads2 (before ++ piece)) → length piece ≡ n → n ≤ left → Fed s new piece old out (Ok b)
    → ReaderSoFar e r0 r2 written read count (left - n) reads2 new out
reader_steps e r0 r1 r2 written read piece count left n reads1 reads2 s new old out b f reads is within fed = record {
  bytes = f.bytes ++ piece;
  hearing = hearing_more r0 r1 r2 read f.bytes piece count left n reads1 reads2 f.hearing (reads r0 (read ++ f.bytes) f.hearing.given) is within;
  stands = subst (λ (x : List ℕ). ReaderStands e written x new out) (append_assoc read f.bytes piece) (reader_takes e written (read ++ f.bytes) piece old out s new b f.stands fed);
}

-- it stopped in the loop
pub reader_stops_unread : (e : BothEnds) (r0 r1 r2 : SourceLog) (down up : Traffic) (count left reads1 : ℕ) (s : Serving) (out : List ℕ) (error : ToolErr) → ReaderSoFar e r0 r1 down.written up.read count left reads1 s out
    → ((r0 : SourceLog) (before : List ℕ) → Given r0 r1 reads1 before → ReadsNone r0 r2 before error) → (bytes : List ℕ) × (length bytes ≤ count) × ReaderStops e r0 r2 (spoken down out) (heard up (up.read ++ bytes)) error
reader_stops_unread e r0 r1 r2 down up count left reads1 s out error f none =
    let counted = f.hearing.counted in
    (f.bytes, omega arith, reader_unread e r0 r2 (spoken down out) (heard up (up.read ++ f.bytes)) s error f.stands (none r0 (up.read ++ f.bytes) f.hearing.given))

pub reader_stops_fed : (e : BothEnds) (r0 r1 r2 : SourceLog) (down up : Traffic) (piece : List ℕ) (count left n reads1 reads2 : ℕ) (s new : Serving) (old out : List ℕ) (error : ToolErr) → ReaderSoFar e r0 r1 down.written up.read count left reads1 s old
    → ((r0 : SourceLog) (before : List ℕ) → Given r0 r1 reads1 before → Given r0 r2 reads2 (before ++ piece)) → length piece ≡ n → n ≤ left → Fed s new piece old out (Err error)
    → (bytes : List ℕ) × (length bytes ≤ count) × ReaderStops e r0 r2 (spoken down out) (heard up (up.read ++ bytes)) error
reader_stops_fed e r0 r1 r2 down up piece count left n reads1 reads2 s new old out error f reads is within fed =
    let more = hearing_more r0 r1 r2 up.read f.bytes piece count left n reads1 reads2 f.hearing (reads r0 (up.read ++ f.bytes) f.hearing.given) is within in
    let counted = more.counted in
    let behind = append_assoc up.read f.bytes piece in (
      f.bytes ++ piece,
      omega arith,
      subst (λ (x : List ℕ). ReaderStops e r0 r2 (spoken down out) (heard up x) error) behind
          (reader_fails e r0 r2 down up (up.read ++ f.bytes) piece old out s new error f.stands fed (subst (λ (x : List ℕ). WasGiven r0 r2 x) (sym behind) (was_given r0 r2 reads2 (up.read ++ (f.bytes ++ piece)) more.given))),
    )
