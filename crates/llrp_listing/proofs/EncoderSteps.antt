-- How an encoder goes on that keeps lines as their octets.
use Rattle.std.proofs.Common.{◌≡◌, ℕ, ◌+◌, ◌≤◌, List, [], ◌∷◌, ◌++◌, length, take, refl, ap, subst, arith, Ok, Err, length-append}
use Rattle.std.specs.Prelude.{IfErr, IsErrAnd, MatchResult, OnOk, Result}
use Rattle.llrp_schema.specs.declared.kinds.KindSet.{KindSet}
use Rattle.llrp_stream.specs.Device.{SinkLog}
use Rattle.llrp_listing.specs.declared.outcome.ToolErr.{ToolErr}
use Rattle.llrp_listing.specs.declared.parse_line.Line.{Line}
use Rattle.llrp_listing.specs.declared.parse_line.Line.TheVariants as said
use Rattle.llrp_listing.specs.declared.parse_line.LineErr.{LineErr}
use Rattle.llrp_listing.specs.Calls.Copying.{Writes}
use Rattle.llrp_listing.specs.Private.Encoder.{Finished, SaysAt, StandsAt, Stopped}
use Rattle.llrp_listing.specs.Private.LineReading.{ReadsLine, SaidIs}
use Rattle.llrp_listing.specs.NodeLine.{NodeLine}
use Rattle.llrp_listing.specs.Calls.Splits.{Lacks}
use Rattle.llrp_stream.proofs.WritingLemmas.{same_failures}
use Rattle.llrp_listing.proofs.Standing.{goes_on, handed_on, handing_stops, line_more, pieces_stop}
use Rattle.llrp_listing.proofs.Zips.{zip_length}
use Rattle.llrp_listing.specs.declared.encode.Encoder.{Encoder}
use Rattle.llrp_listing.specs.declared.encode.buffer.EncodeBuffer.{EncodeBuffer}
use Rattle.llrp_listing.specs.Private.EncodeBuffer.{CanStandAt, ClosedAll, Front, Holds, OpensLine, inner}
use Rattle.llrp_listing.specs.Private.EncoderState.{Stands, StandsSome}
use Rattle.llrp_listing.specs.Private.Flushing.{PassesOn}
use Rattle.llrp_listing.specs.Private.OpenNodes.{IsHeld, IsSaid, OpenNode, entries, new_node}
use Rattle.llrp_listing.specs.Private.TakingLines.{Rests, line_level, line_node, said_level, said_node}
use Rattle.llrp_listing.specs.declared.encode.take_line.LineContents.{LineContents}
use Rattle.llrp_listing.proofs.LineSteps.{length_entries}

-- ---- the octets of closed messages

pub rests_front : (writer : EncodeBuffer) (out : List ℕ) (ns : List OpenNode) → Rests writer out ns → Front writer out
rests_front writer out ns h = record { back = h.bytes ++ []; room = h.room; from = h.from }

pub some_front : (now : SinkLog) (encoder : Encoder) → StandsSome now encoder → (out : List ℕ) × Front encoder.writer out
some_front now encoder (start, text, s) = (s.out, rests_front encoder.writer s.out s.ns s.rests)

pub closed_front : {limit : ℕ} (writer : EncodeBuffer) (at : ℕ) (out more : List ℕ) (ns : List OpenNode) → (c : ClosedAll limit writer at out more ns) → Front writer c.now
closed_front writer at out more ns c = record { back = c.holds.bytes ++ more; room = c.holds.room; from = c.holds.from }

pub front_within : (writer : EncodeBuffer) (out : List ℕ) → Front writer out → writer.from ≤ length writer.room.items
front_within writer out f = omega (arith, f.from, ap (λ (z : List ℕ). length z) f.room, length-append out f.back)

take_front : (out back : List ℕ) → take (length out) (out ++ back) ≡ out
take_front [] back = refl
take_front (b ∷ out) back = ap (λ (z : List ℕ). b ∷ z) (take_front out back)

pub front_is : (writer : EncodeBuffer) (out : List ℕ) → Front writer out → take writer.from writer.room.items ≡ out
front_is writer out f = rw (f.from, f.room) (take_front out f.back)

-- the same lines, where their octets end
pub holds_at : (writer : EncodeBuffer) (at : ℕ) (out : List ℕ) (ns : List OpenNode) → length writer.room.items ≡ at → Rests writer out ns → Holds writer at out [] ns
holds_at writer at out ns e r = subst (λ (n : ℕ). Holds writer n out [] ns) e r

-- what is an error is not done
pub never_ok : (P : ToolErr → Type 0) (B : Type 0) (r : Result (Unit {0}) ToolErr) → IsErrAnd r P → OnOk r B
never_ok P B (Ok u) w = absurd w
never_ok P B (Err e) w = tt

-- ---- a line that is read

-- as many lines are open as there are records
pub read_at : (p : KindSet) (writer : EncodeBuffer) (out : List ℕ) (ns : List OpenNode) (bytes : List ℕ) (r : Result Line LineErr) → Rests writer out ns → ReadsLine p (length (inner writer.rows)) bytes r → ReadsLine p (length (entries ns)) bytes r
read_at p writer out ns bytes r h read =
    let same : length (inner writer.rows) ≡ length (entries ns) = omega (arith, zip_length IsHeld (inner writer.rows) ns h.rows, length_entries ns) in
    subst (λ (depth : ℕ). ReadsLine p depth bytes r) same read

pub says_can : {p : KindSet} (ns : List OpenNode) (bytes : List ℕ) (level : ℕ) (line : NodeLine) → SaysAt p (length (entries ns)) bytes level line → CanStandAt level (length ns) line
says_can ns bytes level line h = record { placed = h.0.placed; within = omega (arith, h.1, length_entries ns); deep = h.0.deep }

-- what a line says may be said
pub says_said : {p : KindSet} (depth : ℕ) (bytes : List ℕ) (level : ℕ) (line : NodeLine) → SaysAt p depth bytes level line → IsSaid line
says_said depth bytes level line h = record { numbers = h.0.numbers; tail = h.0.tail }

-- as many lines are open as there are records
pub says_entries : {p : KindSet} (writer : EncodeBuffer) (out : List ℕ) (ns : List OpenNode) (bytes : List ℕ) (level : ℕ) (line : NodeLine) → Rests writer out ns → SaysAt p (length (inner writer.rows)) bytes level line → SaysAt p (length (entries ns)) bytes level line
says_entries writer out ns bytes level line h says = (says.0, omega (arith, says.1, zip_length IsHeld (inner writer.rows) ns h.rows, length_entries ns))

-- what is read of a line
pub read_says : {p : KindSet} (depth : ℕ) (bytes : List ℕ) (line : Line) → SaidIs p depth bytes line → SaysAt p depth bytes (line_level line) (line_node line)
read_says depth bytes (said.Message line) h = (h, omega arith)
read_says depth bytes (said.Parameter line) h = h

pub said_says : {p : KindSet} (depth : ℕ) (bytes : List ℕ) (line : Line) (s : LineContents) → said_level s ≡ line_level line → said_node s ≡ line_node line → SaidIs p depth bytes line → SaysAt p depth bytes (said_level s) (said_node s)
said_says depth bytes line s level node h = rw (level, node) (read_says depth bytes line h)

-- ---- the encoder goes on

-- the begun line goes on
pub stands_more : {start now : SinkLog} {text : List ℕ} (old new : Encoder) (part : List ℕ) → Stands start now text old → Lacks 10 part → new.writer ≡ old.writer → new.number ≡ old.number → new.guess ≡ old.guess → new.line.items ≡ old.line.items ++ part → Stands start now (text ++ part) new
stands_more old new part s n w k g l = record { out = s.out; ns = s.ns; rests = rw w s.rests; after = rw (g, w, k, l) (goes_on part s.after n) }

-- the begun line ends and is open, and what is gathered may be handed on
pub stands_taken : {p : KindSet} {limit : ℕ} {start mid now : SinkLog} {text : List ℕ} {number : ℕ} {begun out : List ℕ} (opened : EncodeBuffer) (new : Encoder) (ns : List OpenNode) (part : List ℕ) (level : ℕ) (line : NodeLine) → StandsAt p limit start mid text (entries ns) number begun out → Lacks 10 part → SaysAt p (length (entries ns)) (begun ++ part) level line
    → (o : OpensLine limit opened out ns level line (number + 1)) → PassesOn new.writer o.now (new_node line (number + 1) ∷ o.outer) mid now
    → new.guess ≡ p → new.writer.limit ≡ limit → new.number ≡ number + 1 → new.line.items ≡ [] → Stands start now (text ++ (part ++ (10 ∷ []))) new
stands_taken {number} opened new ns part level line s n ok o p g w k l = record {
  out = p.left;
  ns = new_node line (number + 1) ∷ o.outer;
  rests = p.rests;
  after = rw (g, w, k, l) (line_more part level line (entries (new_node line (number + 1) ∷ o.outer)) o.now p.left s n ok (record { messages = o.messages; begins = o.begins; appended = o.appended }) p.hands);
}

-- it is open, and handing on failed
pub taken_stops : {p : KindSet} {limit : ℕ} {start mid : SinkLog} {text : List ℕ} {number : ℕ} {begun out : List ℕ} (now : SinkLog) (opened : EncodeBuffer) (ns : List OpenNode) (part : List ℕ) (level : ℕ) (line : NodeLine) (e : ToolErr) → StandsAt p limit start mid text (entries ns) number begun out → Lacks 10 part → SaysAt p (length (entries ns)) (begun ++ part) level line
    → (o : OpensLine limit opened out ns level line (number + 1)) → Writes o.now mid now (Err e) → Stopped p limit start now (text ++ (part ++ (10 ∷ []))) e
taken_stops {number} now opened ns part level line e s n ok o w =
    pieces_stop now part level line (entries (new_node line (number + 1) ∷ o.outer)) o.now e s n ok (record { messages = o.messages; begins = o.begins; appended = o.appended }) w

-- what is gathered is handed on
pub stands_handed : {start mid now : SinkLog} {text : List ℕ} (old new : Encoder) → (s : Stands start mid text old) → PassesOn new.writer s.out s.ns mid now → new.guess ≡ old.guess → new.writer.limit ≡ old.writer.limit → new.number ≡ old.number → new.line.items ≡ old.line.items → Stands start now text new
stands_handed old new s p g w k l = record { out = p.left; ns = s.ns; rests = p.rests; after = rw (g, w, k, l) (handed_on p.left s.after p.hands) }

pub hand_result : {start mid : SinkLog} {text : List ℕ} (now : SinkLog) (old new : Encoder) (r : Result (Unit {0}) ToolErr) → Stands start mid text old
    → OnOk r ((out : List ℕ) (ns : List OpenNode) → Rests old.writer out ns → PassesOn new.writer out ns mid now) → IfErr r (λ e. (out : List ℕ) (ns : List OpenNode) → Rests old.writer out ns → Writes out mid now r)
    → new.guess ≡ old.guess → new.writer.limit ≡ old.writer.limit → new.number ≡ old.number → new.line.items ≡ old.line.items → MatchResult r (λ _. Stands start now text new) (Stopped old.guess old.writer.limit start now text)
hand_result now old new (Ok u) s passed failed g w k l = stands_handed old new s (passed s.out s.ns s.rests) g w k l
hand_result now old new (Err e) s passed failed g w k l = handing_stops now e s.after (failed s.out s.ns s.rests)

pub hand_sink : (mid now : SinkLog) (old new : EncodeBuffer) (r : Result (Unit {0}) ToolErr) (out : List ℕ) (ns : List OpenNode) → Rests old out ns → OnOk r ((out : List ℕ) (ns : List OpenNode) → Rests old out ns → PassesOn new out ns mid now) → OnOk r (now.failures ≡ mid.failures)
hand_sink mid now old new (Ok u) out ns h passed = let p = passed out ns h in same_failures mid now p.hands.0 p.hands.2
hand_sink mid now old new (Err e) out ns h passed = tt

-- all lines are closed at the end
pub text_finished : {limit : ℕ} (new : EncodeBuffer) (at : ℕ) (out more : List ℕ) (ns : List OpenNode) → (c : ClosedAll limit new at out more ns) → Finished limit (entries ns) out c.now
text_finished new at out more ns c = record { messages = c.messages; closed = c.closed; appended = c.appended }
