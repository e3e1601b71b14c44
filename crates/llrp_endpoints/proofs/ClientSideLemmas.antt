-- The client's side of a connection.
use Rattle.std.proofs.Common.{◌≡◌, ℕ, ◌-◌, ◌≤◌, Bool, true, false, List, [], ◌++◌, length, Result, Ok, Err, refl, sym, ap, subst, ◌∙◌, append_assoc, inl, inr, arith}
use Rattle.std.proofs.lemmas.List.{append-nil}
use Rattle.llrp_stream.specs.Device.{SourceLog, SinkLog, Wrote}
use Rattle.llrp_listing.specs.declared.outcome.ToolErr.{ToolErr}
use Rattle.llrp_listing.specs.declared.outcome.ToolErr.TheVariants.{Listing, Script, Hex, Read, Write, Bound, Broken, Memory, Peer, Strange, Early}
use Rattle.llrp_endpoints.specs.declared.gathering.Gathering.{Gathering}
use Rattle.llrp_endpoints.specs.declared.course.Phase.TheVariants.{Open, Closed}
use Rattle.llrp_listing.specs.Calls.Copying.{Given, Writes}
use Rattle.llrp_listing.specs.Copying.{WasGiven}
use Rattle.llrp_endpoints.specs.Private.EndsStand.{spoken, heard, ReadsNone, ClientStands, ClientStops}
use Rattle.llrp_endpoints.specs.Gathering.{Course, new_course}
use Rattle.llrp_endpoints.specs.Calls.GatheringStands.{IsOpen, Counts, Moves, MovesSome, Feeds, phase_left}
use Rattle.llrp_endpoints.specs.Plan.{Plan}
use Rattle.llrp_endpoints.specs.RunInventory.{Says, Ended, BeginsSaying}
use Rattle.llrp_endpoints.specs.RunLoop.{BothEnds, Traffic, SaidAll, ClientAwaits}
use Rattle.llrp_stream.proofs.WritingLemmas.{wrote_nothing, wrote_more, wrote_then_failed}
use Rattle.llrp_endpoints.proofs.HearingLemmas.{Hearing, hearing_none, hearing_more, was_given}
use Rattle.llrp_endpoints.proofs.InventoryLemmas.{says_nothing, goes_on_saying, says_so_far, awaits, only_write, front_behind}

-- ---- what it says

pub client_awaits : (e : BothEnds) (down up : Traffic) (p0 p1 : SinkLog) (g : Gathering) (lines : List ℕ) → ClientStands e up.written down.read p0 p1 g up.unwritten lines → ClientAwaits e down up p0 p1
client_awaits e down up p0 p1 g lines h = (h.course, awaits e.limit e.plan down.read h.rest h.course g h.open_still, (h.text, h.says, h.wrote))

-- ---- what a feed adds

moves_apart : (c d : Course) (o0 o1 r0 r1 : List ℕ) (m : Moves c d o0 o1 r0 r1) → Moves c d [] m.frames.text r0 r1
moves_apart c d o0 o1 r0 r1 m = record {
  messages = m.messages;
  reports = m.reports;
  lines = m.lines;
  sent_are = m.sent_are;
  reports_are = m.reports_are;
  form_is = m.form_is;
  asides_are = m.asides_are;
  frames = record { text = m.frames.text; frames = m.frames.frames; whole = refl };
  are = m.are;
  printed = m.printed;
}

moves_some_apart : (c d : Course) (o0 o1 r0 r1 : List ℕ) (m : MovesSome c d o0 o1 r0 r1) → MovesSome c d [] m.frames.adds.text r0 r1
moves_some_apart c d o0 o1 r0 r1 m = record {
  messages = m.messages;
  reports = m.reports;
  later = m.later;
  lines = m.lines;
  sent_are = m.sent_are;
  reports_are = m.reports_are;
  form_is = m.form_is;
  asides_are = m.asides_are;
  frames = record { first = m.frames.first; later = m.frames.later; parts = m.frames.parts; adds = record { text = m.frames.adds.text; frames = m.frames.adds.frames; whole = refl } };
  are = m.are;
  printed = m.printed;
}

-- What a feed appended, apart from what was there before.
record Apart (limit : ℕ) (plan : Plan) (bytes : List ℕ) (c : Course) (g : Gathering) (o0 o1 r0 r1 : List ℕ) (answer : Result Bool ToolErr) : Type 0 where
  more : List ℕ
  whole : o1 ≡ o0 ++ more
  feeds : Feeds limit plan bytes c g [] more r0 r1 answer

apart : (limit : ℕ) (plan : Plan) (bytes : List ℕ) (c : Course) (g : Gathering) (o0 o1 r0 r1 : List ℕ) (answer : Result Bool ToolErr) → Feeds limit plan bytes c g o0 o1 r0 r1 answer → Apart limit plan bytes c g o0 o1 r0 r1 answer
apart limit plan bytes c g o0 o1 r0 r1 (Ok false) f = record { more = f.3.frames.text; whole = f.3.frames.whole; feeds = (f.0, f.1, f.2, moves_apart c f.1 o0 o1 r0 r1 f.3) }
apart limit plan bytes c g o0 o1 r0 r1 (Ok true) f = record { more = f.5.frames.text; whole = f.5.frames.whole; feeds = (f.0, f.1, f.2, f.3, f.4, moves_apart c f.1 o0 o1 r0 r1 f.5) }
apart limit plan bytes c g o0 o1 r0 r1 (Err Memory) f = record { more = f.3.frames.adds.text; whole = f.3.frames.adds.whole; feeds = (f.0, f.1, f.2, moves_some_apart c f.1 o0 o1 r0 r1 f.3) }
apart limit plan bytes c g o0 o1 r0 r1 (Err (Peer status)) f = record { more = f.3.1.frames.text; whole = f.3.1.frames.whole; feeds = (f.0, f.1, f.2, (f.3.0, moves_apart c f.1 o0 o1 r0 r1 f.3.1)) }
apart limit plan bytes c g o0 o1 r0 r1 (Err Strange) f = record { more = f.3.1.frames.text; whole = f.3.1.frames.whole; feeds = (f.0, f.1, f.2, (f.3.0, moves_apart c f.1 o0 o1 r0 r1 f.3.1)) }
apart limit plan bytes c g o0 o1 r0 r1 (Err Early) f = record { more = f.3.1.frames.text; whole = f.3.1.frames.whole; feeds = (f.0, f.1, f.2, (f.3.0, moves_apart c f.1 o0 o1 r0 r1 f.3.1)) }
apart limit plan bytes c g o0 o1 r0 r1 (Err Broken) f = record { more = f.5.frames.text; whole = f.5.frames.whole; feeds = (f.0, f.1, f.2, f.3, f.4, moves_apart c f.1 o0 o1 r0 r1 f.5) }
apart limit plan bytes c g o0 o1 r0 r1 (Err (Listing line reason)) f = absurd f.3
apart limit plan bytes c g o0 o1 r0 r1 (Err (Script line)) f = absurd f.3
apart limit plan bytes c g o0 o1 r0 r1 (Err Hex) f = absurd f.3
apart limit plan bytes c g o0 o1 r0 r1 (Err Read) f = absurd f.3
apart limit plan bytes c g o0 o1 r0 r1 (Err Write) f = absurd f.3
apart limit plan bytes c g o0 o1 r0 r1 (Err Bound) f = absurd f.3

-- ---- a piece

-- what a feed of gathering does
pub record Fed (g new : Gathering) (piece o0 o1 r0 r1 : List ℕ) (answer : Result Bool ToolErr) : Type 0 where
  pub feeds : (limit : ℕ) (plan : Plan) (bytes rest : List ℕ) (c : Course) → IsOpen limit plan bytes rest c g → Feeds limit plan (bytes ++ piece) c new o0 o1 r0 r1 answer
  pub phase : g.phase ≡ Open → new.phase ≡ phase_left answer

-- A piece was fed to a client in this state.
record Piece (e : BothEnds) (written read piece : List ℕ) (p0 p1 : SinkLog) (g new : Gathering) (o0 o1 r0 r1 : List ℕ) (answer : Result Bool ToolErr) : Type 0 where
  before : ClientStands e written read p0 p1 g o0 r0
  fed : Apart e.limit e.plan (read ++ piece) before.course new o0 o1 r0 r1 answer
  behind : (written ++ o0) ++ fed.more ≡ written ++ o1

piece_fed : (e : BothEnds) (written read piece : List ℕ) (p0 p1 : SinkLog) (g new : Gathering) (o0 o1 r0 r1 : List ℕ) (answer : Result Bool ToolErr) → ClientStands e written read p0 p1 g o0 r0 → Fed g new piece o0 o1 r0 r1 answer
    → Piece e written read piece p0 p1 g new o0 o1 r0 r1 answer
piece_fed e written read piece p0 p1 g new o0 o1 r0 r1 answer h f =
    let a = apart e.limit e.plan (read ++ piece) h.course new o0 o1 r0 r1 answer (f.feeds e.limit e.plan read h.rest h.course h.open_still) in
    record { before = h; fed = a; behind = append_assoc written o0 a.more ∙ ap (λ (x : List ℕ). written ++ x) (sym a.whole) }

says_on : (e : BothEnds) (written read piece : List ℕ) (p0 p1 : SinkLog) (g new : Gathering) (o0 o1 r0 r1 : List ℕ) (answer : Result Bool ToolErr) (p : Piece e written read piece p0 p1 g new o0 o1 r0 r1 answer) (d : Course) → Moves p.before.course d [] p.fed.more r0 r1
    → Says d (written ++ o1) (p.before.text ++ r1)
says_on e written read piece p0 p1 g new o0 o1 r0 r1 answer p d m =
    let h = p.before in
    subst (λ (x : List ℕ). Says d x (h.text ++ r1)) p.behind (goes_on_saying h.course d (written ++ o0) h.text [] p.fed.more r0 r1 h.says h.open_still.stands.open_is refl h.none_left m)

-- all was said, and the lines were written
all_said : (e : BothEnds) (up : Traffic) (read piece : List ℕ) (p0 p1 p2 : SinkLog) (g new : Gathering) (o0 o1 r0 r1 : List ℕ) (answer : Result Bool ToolErr) (p : Piece e up.written read piece p0 p1 g new o0 o1 r0 r1 answer) (d : Course)
    → Moves p.before.course d [] p.fed.more r0 r1 → Wrote p1 p2 r1 → SaidAll d (spoken up o1) p0 p2
all_said e up read piece p0 p1 p2 g new o0 o1 r0 r1 answer p d m w =
    (p.before.text ++ r1, says_on e up.written read piece p0 p1 g new o0 o1 r0 r1 answer p d m, wrote_more p0 p1 p2 p.before.text r1 p.before.wrote w)

begins : (e : BothEnds) (written read piece : List ℕ) (p0 p1 : SinkLog) (g new : Gathering) (o0 o1 r0 r1 : List ℕ) (answer : Result Bool ToolErr) (p : Piece e written read piece p0 p1 g new o0 o1 r0 r1 answer)
    → BeginsSaying e.limit e.plan (read ++ piece) (written ++ o1) (p.before.text ++ r1)
begins e written read piece p0 p1 g new o0 o1 r0 r1 answer p =
    let h = p.before in
    subst (λ (x : List ℕ). BeginsSaying e.limit e.plan (read ++ piece) x (h.text ++ r1)) p.behind
    (says_so_far e.limit e.plan (read ++ piece) h.course new (written ++ o0) h.text [] p.fed.more r0 r1 answer h.says h.open_still.stands.open_is refl h.none_left p.fed.feeds)

pub client_takes : (e : BothEnds) (written read piece : List ℕ) (p0 p1 p2 : SinkLog) (g new : Gathering) (o0 o1 r0 r1 r2 : List ℕ) → ClientStands e written read p0 p1 g o0 r0 → Fed g new piece o0 o1 r0 r1 (Ok false) → Wrote p1 p2 r1 → r2 ≡ []
    → ClientStands e written (read ++ piece) p0 p2 new o1 r2
client_takes e written read piece p0 p1 p2 g new o0 o1 r0 r1 r2 h f w none =
    let p = piece_fed e written read piece p0 p1 g new o0 o1 r0 r1 (Ok false) h f in
    let s = p.fed.feeds in
    record {
      rest = s.0;
      course = s.1;
      open_still = record { stands = s.2; phase = f.phase h.open_still.phase };
      text = p.before.text ++ r1;
      says = says_on e written read piece p0 p1 g new o0 o1 r0 r1 (Ok false) p s.1 s.3;
      wrote = wrote_more p0 p1 p2 p.before.text r1 p.before.wrote w;
      none_left = none;
    }

-- a feed closes it
pub client_closes : (e : BothEnds) (up : Traffic) (read piece : List ℕ) (p0 p1 p2 : SinkLog) (g new : Gathering) (o0 o1 r0 r1 : List ℕ) → ClientStands e up.written read p0 p1 g o0 r0 → Fed g new piece o0 o1 r0 r1 (Ok true) → Wrote p1 p2 r1
    → (course : Course) × Ended Closed e.limit e.plan (read ++ piece) course × SaidAll course (spoken up o1) p0 p2 × Counts course.reports new
client_closes e up read piece p0 p1 p2 g new o0 o1 r0 r1 h f w =
    let p = piece_fed e up.written read piece p0 p1 g new o0 o1 r0 r1 (Ok true) h f in
    let s = p.fed.feeds in
    (s.1, (s.0, s.2, s.3), all_said e up read piece p0 p1 p2 g new o0 o1 r0 r1 (Ok true) p s.1 s.5 w, s.4)

-- a feed ends it with an error
pub client_fails : (e : BothEnds) (s0 s1 : SourceLog) (down up : Traffic) (read piece : List ℕ) (p0 p1 p2 : SinkLog) (g new : Gathering) (o0 o1 r0 r1 : List ℕ) (error : ToolErr) → ClientStands e up.written read p0 p1 g o0 r0 → Fed g new piece o0 o1 r0 r1 (Err error) → Wrote p1 p2 r1
    → WasGiven s0 s1 (read ++ piece) → ClientStops e s0 s1 p0 p2 (heard down (read ++ piece)) (spoken up o1) error
client_fails e s0 s1 down up read piece p0 p1 p2 g new o0 o1 r0 r1 error h f w given = by_error error (piece_fed e up.written read piece p0 p1 g new o0 o1 r0 r1 (Err error) h f)
  where
    said : (error : ToolErr) (p : Piece e up.written read piece p0 p1 g new o0 o1 r0 r1 (Err error)) (d : Course) → Moves p.before.course d [] p.fed.more r0 r1 → SaidAll d (spoken up o1) p0 p2
    said error p d m = all_said e up read piece p0 p1 p2 g new o0 o1 r0 r1 (Err error) p d m w

    by_error : (error : ToolErr) (p : Piece e up.written read piece p0 p1 g new o0 o1 r0 r1 (Err error)) → ClientStops e s0 s1 p0 p2 (heard down (read ++ piece)) (spoken up o1) error
    by_error (Peer status) p = let s = p.fed.feeds in (given, (s.1, (s.0, s.2, s.3.0), said (Peer status) p s.1 s.3.1))
    by_error Strange p = let s = p.fed.feeds in (given, (s.1, (s.0, s.2, s.3.0), said Strange p s.1 s.3.1))
    by_error Early p = let s = p.fed.feeds in inl (given, (s.1, (s.0, s.2, s.3.0), said Early p s.1 s.3.1))
    by_error Broken p = let s = p.fed.feeds in (given, (s.1, (s.0, s.2, s.3, s.4), said Broken p s.1 s.5))
    by_error Memory p = (given, p.before.text ++ r1, begins e up.written read piece p0 p1 g new o0 o1 r0 r1 (Err Memory) p, wrote_more p0 p1 p2 p.before.text r1 p.before.wrote w)
    by_error (Listing line reason) p = absurd p.fed.feeds.3
    by_error (Script line) p = absurd p.fed.feeds.3
    by_error Hex p = absurd p.fed.feeds.3
    by_error Read p = absurd p.fed.feeds.3
    by_error Write p = absurd p.fed.feeds.3
    by_error Bound p = absurd p.fed.feeds.3

-- the lines of a feed were not all written
pub client_unreported : (e : BothEnds) (s0 s1 : SourceLog) (down up : Traffic) (read piece : List ℕ) (p0 p1 p2 : SinkLog) (g new : Gathering) (o0 o1 r0 r1 : List ℕ) (answer : Result Bool ToolErr) (error : ToolErr) → ClientStands e up.written read p0 p1 g o0 r0 → Fed g new piece o0 o1 r0 r1 answer
    → Writes r1 p1 p2 (Err error) → WasGiven s0 s1 (read ++ piece) → ClientStops e s0 s1 p0 p2 (heard down (read ++ piece)) (spoken up o1) error
client_unreported e s0 s1 down up read piece p0 p1 p2 g new o0 o1 r0 r1 answer error h f w given =
    let is = only_write r1 p1 p2 error w in
    let failed : Writes r1 p1 p2 (Err Write) = subst (λ (x : ToolErr). Writes r1 p1 p2 (Err x)) is w in
    let p = piece_fed e up.written read piece p0 p1 g new o0 o1 r0 r1 answer h f in
    subst (λ (x : ToolErr). ClientStops e s0 s1 p0 p2 (heard down (read ++ piece)) (spoken up o1) x) (sym is) (
      given,
      (p.before.text ++ r1, p.before.text ++ failed.0, begins e up.written read piece p0 p1 g new o0 o1 r0 r1 answer p, front_behind p.before.text failed.0 r1 failed.1, wrote_then_failed p0 p1 p2 p.before.text failed.0 p.before.wrote failed.2),
    )

-- no read gives bytes
pub client_unread : (e : BothEnds) (s0 s1 : SourceLog) (down up : Traffic) (p0 p1 : SinkLog) (g : Gathering) (lines : List ℕ) (error : ToolErr) → ClientStands e up.written down.read p0 p1 g up.unwritten lines → ReadsNone s0 s1 down.read error → ClientStops e s0 s1 p0 p1 down up error
client_unread e s0 s1 down up p0 p1 g lines error h n = by_error error n
  where
    by_error : (error : ToolErr) → ReadsNone s0 s1 down.read error → ClientStops e s0 s1 p0 p1 down up error
    by_error Read n = (n, client_awaits e down up p0 p1 g lines h)
    by_error Bound n = (n, client_awaits e down up p0 p1 g lines h)
    by_error Early n = inr (n, client_awaits e down up p0 p1 g lines h)
    by_error Write n = absurd n
    by_error Broken n = absurd n
    by_error Memory n = absurd n
    by_error (Peer status) n = absurd n
    by_error Strange n = absurd n
    by_error (Listing line reason) n = absurd n
    by_error (Script line) n = absurd n
    by_error Hex n = absurd n

-- ---- the loop

-- what it heard so far of this many bytes
pub record ClientSoFar (e : BothEnds) (s0 s1 : SourceLog) (p0 p1 : SinkLog) (written read : List ℕ) (count left reads1 : ℕ) (g : Gathering) (out lines : List ℕ) : Type 0 where
  pub bytes : List ℕ
  pub hearing : Hearing s0 s1 read bytes count left reads1
  pub stands : ClientStands e written (read ++ bytes) p0 p1 g out lines

-- a client before any byte came
pub client_new : (e : BothEnds) (log : SinkLog) (limit : ℕ) (plan : Plan) (g : Gathering) (said lines : List ℕ) → e.limit ≡ limit → e.plan ≡ plan → IsOpen limit plan [] [] (new_course limit plan) g → said ≡ [] → lines ≡ [] → ClientStands e [] [] log log g said lines
client_new e log limit plan g said lines p q opened none_said none = record {
  rest = [];
  course = new_course e.limit e.plan;
  open_still = subst (λ (n : ℕ). IsOpen n e.plan [] [] (new_course n e.plan) g) (sym p) (subst (λ (x : Plan). IsOpen limit x [] [] (new_course limit x) g) (sym q) opened);
  text = [];
  says = subst (λ (x : List ℕ). Says (new_course e.limit e.plan) x []) (sym none_said) (says_nothing e.limit e.plan);
  wrote = wrote_nothing log;
  none_left = none;
}

pub client_begins : (e : BothEnds) (s0 s1 : SourceLog) (p0 p1 : SinkLog) (written read : List ℕ) (count reads : ℕ) (g : Gathering) (out lines : List ℕ) → ClientStands e written read p0 p1 g out lines → Given s0 s1 reads read
    → ClientSoFar e s0 s1 p0 p1 written read count count reads g out lines
client_begins e s0 s1 p0 p1 written read count reads g out lines h k = record {
  bytes = [];
  hearing = hearing_none s0 s1 read count reads k;
  stands = subst (λ (x : List ℕ). ClientStands e written x p0 p1 g out lines) (sym (append-nil read)) h;
}

-- A piece was read in the loop.
pub record Heard (e : BothEnds) (s0 s1 s2 : SourceLog) (p0 p1 : SinkLog) (written read piece : List ℕ) (count left n reads1 reads2 : ℕ) (g : Gathering) (out lines : List ℕ) : Type 0 where
  pub before : ClientSoFar e s0 s1 p0 p1 written read count left reads1 g out lines
  pub more : Hearing s0 s2 read (before.bytes ++ piece) count (left - n) reads2

pub client_heard : (e : BothEnds) (s0 s1 s2 : SourceLog) (p0 p1 : SinkLog) (written read piece : List ℕ) (count left n reads1 reads2 : ℕ) (g : Gathering) (out lines : List ℕ) → ClientSoFar e s0 s1 p0 p1 written read count left reads1 g out lines
    → ((s0 : SourceLog) (before : List ℕ) → Given s0 s1 reads1 before → Given s0 s2 reads2 (before ++ piece)) → length piece ≡ n → n ≤ left → Heard e s0 s1 s2 p0 p1 written read piece count left n reads1 reads2 g out lines
client_heard e s0 s1 s2 p0 p1 written read piece count left n reads1 reads2 g out lines f reads is within = record {
  before = f;
  more = hearing_more s0 s1 s2 read f.bytes piece count left n reads1 reads2 f.hearing (reads s0 (read ++ f.bytes) f.hearing.given) is within;
}

given_heard : (e : BothEnds) (s0 s1 s2 : SourceLog) (p0 p1 : SinkLog) (written read piece : List ℕ) (count left n reads1 reads2 : ℕ) (g : Gathering) (out lines : List ℕ) (h : Heard e s0 s1 s2 p0 p1 written read piece count left n reads1 reads2 g out lines)
    → WasGiven s0 s2 ((read ++ h.before.bytes) ++ piece)
given_heard e s0 s1 s2 p0 p1 written read piece count left n reads1 reads2 g out lines h =
    subst (λ (x : List ℕ). WasGiven s0 s2 x) (sym (append_assoc read h.before.bytes piece)) (was_given s0 s2 reads2 (read ++ (h.before.bytes ++ piece)) h.more.given)

-- it goes on
pub client_steps : (e : BothEnds) (s0 s1 s2 : SourceLog) (p0 p1 p2 : SinkLog) (written read piece : List ℕ) (count left n reads1 reads2 : ℕ) (g new : Gathering) (o0 o1 r0 r1 r2 : List ℕ) (b : Bool) → b ≡ false
    → Heard e s0 s1 s2 p0 p1 written read piece count left n reads1 reads2 g o0 r0 → Fed g new piece o0 o1 r0 r1 (Ok b) → Wrote p1 p2 r1 → r2 ≡ [] → ClientSoFar e s0 s2 p0 p2 written read count (left - n) reads2 new o1 r2
client_steps e s0 s1 s2 p0 p1 p2 written read piece count left n reads1 reads2 g new o0 o1 r0 r1 r2 true is h f w none = absurd cc
client_steps e s0 s1 s2 p0 p1 p2 written read piece count left n reads1 reads2 g new o0 o1 r0 r1 r2 false is h f w none = record {
  bytes = h.before.bytes ++ piece;
  hearing = h.more;
  stands = subst (λ (x : List ℕ). ClientStands e written x p0 p2 new o1 r2) (append_assoc read h.before.bytes piece) (client_takes e written (read ++ h.before.bytes) piece p0 p1 p2 g new o0 o1 r0 r1 r2 h.before.stands f w none);
}

-- it is closed as planned
pub client_ends : (e : BothEnds) (s0 s1 s2 : SourceLog) (p0 p1 p2 : SinkLog) (down up : Traffic) (piece : List ℕ) (count left n reads1 reads2 : ℕ) (g new : Gathering) (o0 o1 r0 r1 : List ℕ) (b : Bool) → b ≡ true
    → Heard e s0 s1 s2 p0 p1 up.written down.read piece count left n reads1 reads2 g o0 r0 → Fed g new piece o0 o1 r0 r1 (Ok b) → Wrote p1 p2 r1
    → (bytes : List ℕ) × (length bytes ≤ count) × WasGiven s0 s2 (down.read ++ bytes) × (course : Course) × Ended Closed e.limit e.plan (down.read ++ bytes) course × SaidAll course (spoken up o1) p0 p2 × Counts course.reports new
client_ends e s0 s1 s2 p0 p1 p2 down up piece count left n reads1 reads2 g new o0 o1 r0 r1 false is h f w = absurd cc
client_ends e s0 s1 s2 p0 p1 p2 down up piece count left n reads1 reads2 g new o0 o1 r0 r1 true is h f w =
    let counted = h.more.counted in
    let behind = append_assoc down.read h.before.bytes piece in
    let closes = client_closes e up (down.read ++ h.before.bytes) piece p0 p1 p2 g new o0 o1 r0 r1 h.before.stands f w in (
      h.before.bytes ++ piece,
      omega arith,
      was_given s0 s2 reads2 (down.read ++ (h.before.bytes ++ piece)) h.more.given,
      closes.0,
      subst (λ (x : List ℕ). Ended Closed e.limit e.plan x closes.0) behind closes.1,
      closes.2,
      closes.3,
    )

-- it stops
pub client_stops_unread : (e : BothEnds) (s0 s1 s2 : SourceLog) (p0 p1 : SinkLog) (down up : Traffic) (count left reads1 : ℕ) (g : Gathering) (out lines : List ℕ) (error : ToolErr) → ClientSoFar e s0 s1 p0 p1 up.written down.read count left reads1 g out lines
    → ((s0 : SourceLog) (before : List ℕ) → Given s0 s1 reads1 before → ReadsNone s0 s2 before error) → (bytes : List ℕ) × (length bytes ≤ count) × ClientStops e s0 s2 p0 p1 (heard down (down.read ++ bytes)) (spoken up out) error
client_stops_unread e s0 s1 s2 p0 p1 down up count left reads1 g out lines error f none =
    let counted = f.hearing.counted in
    (f.bytes, omega arith, client_unread e s0 s2 (heard down (down.read ++ f.bytes)) (spoken up out) p0 p1 g lines error f.stands (none s0 (down.read ++ f.bytes) f.hearing.given))

pub client_stops_unreported : (e : BothEnds) (s0 s1 s2 : SourceLog) (p0 p1 p2 : SinkLog) (down up : Traffic) (piece : List ℕ) (count left n reads1 reads2 : ℕ) (g new : Gathering) (o0 o1 r0 r1 : List ℕ) (answer : Result Bool ToolErr) (error : ToolErr)
    → Heard e s0 s1 s2 p0 p1 up.written down.read piece count left n reads1 reads2 g o0 r0 → Fed g new piece o0 o1 r0 r1 answer → Writes r1 p1 p2 (Err error)
    → (bytes : List ℕ) × (length bytes ≤ count) × ClientStops e s0 s2 p0 p2 (heard down (down.read ++ bytes)) (spoken up o1) error
client_stops_unreported e s0 s1 s2 p0 p1 p2 down up piece count left n reads1 reads2 g new o0 o1 r0 r1 answer error h f w =
    let counted = h.more.counted in (
      h.before.bytes ++ piece,
      omega arith,
      subst (λ (x : List ℕ). ClientStops e s0 s2 p0 p2 (heard down x) (spoken up o1) error) (append_assoc down.read h.before.bytes piece)
          (client_unreported e s0 s2 down up (down.read ++ h.before.bytes) piece p0 p1 p2 g new o0 o1 r0 r1 answer error h.before.stands f w (given_heard e s0 s1 s2 p0 p1 up.written down.read piece count left n reads1 reads2 g o0 r0 h)),
    )

pub client_stops_fed : (e : BothEnds) (s0 s1 s2 : SourceLog) (p0 p1 p2 : SinkLog) (down up : Traffic) (piece : List ℕ) (count left n reads1 reads2 : ℕ) (g new : Gathering) (o0 o1 r0 r1 : List ℕ) (error : ToolErr)
    → Heard e s0 s1 s2 p0 p1 up.written down.read piece count left n reads1 reads2 g o0 r0 → Fed g new piece o0 o1 r0 r1 (Err error) → Wrote p1 p2 r1
    → (bytes : List ℕ) × (length bytes ≤ count) × ClientStops e s0 s2 p0 p2 (heard down (down.read ++ bytes)) (spoken up o1) error
client_stops_fed e s0 s1 s2 p0 p1 p2 down up piece count left n reads1 reads2 g new o0 o1 r0 r1 error h f w =
    let counted = h.more.counted in (
      h.before.bytes ++ piece,
      omega arith,
      subst (λ (x : List ℕ). ClientStops e s0 s2 p0 p2 (heard down x) (spoken up o1) error) (append_assoc down.read h.before.bytes piece)
          (client_fails e s0 s2 down up (down.read ++ h.before.bytes) piece p0 p1 p2 g new o0 o1 r0 r1 error h.before.stands f w (given_heard e s0 s1 s2 p0 p1 up.written down.read piece count left n reads1 reads2 g o0 r0 h)),
    )
