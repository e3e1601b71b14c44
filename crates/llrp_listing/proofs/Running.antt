-- How encode ends.
use Rattle.std.proofs.Common.{◌≡◌, ℕ, List, [], length, Result, Ok, Err, inl, inr, subst}
use Rattle.std.proofs.lemmas.List.{append-nil}
use Rattle.std.specs.Prelude.{MatchResult, OnOk, IfErr}
use Rattle.llrp_schema.specs.declared.kinds.KindSet.{KindSet}
use Rattle.llrp_listing.specs.declared.outcome.ToolErr.{ToolErr}
use Rattle.llrp_listing.specs.declared.outcome.ToolErr.TheVariants.{Listing, Script, Hex, Read, Write, Bound, Memory, Broken, Peer, Strange, Early}
use Rattle.llrp_listing.specs.Copying.{ReadAll}
use Rattle.llrp_stream.specs.Device.{SourceLog, SinkLog, Gave}
use Rattle.llrp_listing.specs.Calls.Copying.{GivesNone}
use Rattle.llrp_listing.specs.Private.Encoder.{StandsAt, Stopped, StoppedAtEnd, WroteEncoding}
use Rattle.llrp_listing.specs.Encoding.{EncodeStoppedIn, EncodedIn, RefusesIn}
use Rattle.llrp_listing.specs.Private.OpenLines.{Entry}
use Rattle.llrp_listing.proofs.Standing.{handed_all}

-- no piece came
pub read_none : {p : KindSet} (limit : ℕ) (r0 r1 : SourceLog) (w0 w1 : SinkLog) (text : List ℕ) (es : List Entry) (number : ℕ) (line out : List ℕ) (e : ToolErr) → GivesNone r0 r1 text e → StandsAt p limit w0 w1 text es number line out → length out ≡ 0
    → EncodeStoppedIn p limit r0 r1 w0 w1 e
read_none limit r0 r1 w0 w1 text es number line out e (inl none) s left = rw none.0 (none.1, text, s.handed, none.2, s.log, handed_all s left)
read_none limit r0 r1 w0 w1 text es number line out e (inr none) s left = rw none.0 (text, s.handed, none.1, s.log, handed_all s left)

stop_end : (p : KindSet) (limit : ℕ) (r0 r1 : SourceLog) (w0 w1 : SinkLog) (text : List ℕ) (e : ToolErr) → ReadAll r0 r1 text → StoppedAtEnd p limit w0 w1 text e → EncodeStoppedIn p limit r0 r1 w0 w1 e
stop_end p limit r0 r1 w0 w1 text (Listing n r) all s = (s.0, s.1, inl (text, all, s.2))
stop_end p limit r0 r1 w0 w1 text Write all s = (s.0, s.1, elim s.2 [ inl b ↦ inl (text, inr all, b) | inr x ↦ inr (text, x.0, all, x.1, x.2) ])
stop_end p limit r0 r1 w0 w1 text Memory all s = (text, s.0, inr all, s.1, s.2)
stop_end p limit r0 r1 w0 w1 text Read all s = absurd s
stop_end p limit r0 r1 w0 w1 text Bound all s = absurd s
stop_end p limit r0 r1 w0 w1 text (Script at) all s = absurd s
stop_end p limit r0 r1 w0 w1 text Hex all s = absurd s
stop_end p limit r0 r1 w0 w1 text Broken all s = absurd s
stop_end p limit r0 r1 w0 w1 text Early all s = absurd s
stop_end p limit r0 r1 w0 w1 text (Peer status) all s = absurd s
stop_end p limit r0 r1 w0 w1 text Strange all s = absurd s

-- the encoder stopped before the end
pub stop_while : (p : KindSet) (limit k : ℕ) (r0 r1 : SourceLog) (w0 w1 : SinkLog) (text : List ℕ) (e : ToolErr) → Gave r0 r1 k text → Stopped p limit w0 w1 text e → EncodeStoppedIn p limit r0 r1 w0 w1 e
stop_while p limit k r0 r1 w0 w1 text (Listing n r) gave s = (s.0, s.1, inr (k, text, gave, s.2))
stop_while p limit k r0 r1 w0 w1 text Write gave s = (s.0, s.1, inl (text, inl (k, gave), s.2))
stop_while p limit k r0 r1 w0 w1 text Memory gave s = (text, s.0, inl (k, gave), s.1, s.2)
stop_while p limit k r0 r1 w0 w1 text Read gave s = absurd s
stop_while p limit k r0 r1 w0 w1 text Bound gave s = absurd s
stop_while p limit k r0 r1 w0 w1 text (Script at) gave s = absurd s
stop_while p limit k r0 r1 w0 w1 text Hex gave s = absurd s
stop_while p limit k r0 r1 w0 w1 text Broken gave s = absurd s
stop_while p limit k r0 r1 w0 w1 text Early gave s = absurd s
stop_while p limit k r0 r1 w0 w1 text (Peer status) gave s = absurd s
stop_while p limit k r0 r1 w0 w1 text Strange gave s = absurd s

-- the text ended
pub ends_ok : (p : KindSet) (limit : ℕ) (r0 r1 : SourceLog) (w0 w1 : SinkLog) (text : List ℕ) (r : Result (Unit {0}) ToolErr) → ReadAll r0 r1 text → MatchResult r (λ _. WroteEncoding p limit w0 w1 text) (StoppedAtEnd p limit w0 w1 text) → OnOk r (EncodedIn p limit r0 r1 w0 w1)
ends_ok p limit r0 r1 w0 w1 text (Ok u) all m = record { text = text; bytes = m.0; read = all; encodes = m.1; written = m.2 }
ends_ok p limit r0 r1 w0 w1 text (Err e) all m = tt

pub ends_err : (p : KindSet) (limit : ℕ) (r0 r1 : SourceLog) (w0 w1 : SinkLog) (text : List ℕ) (r : Result (Unit {0}) ToolErr) → ReadAll r0 r1 text → MatchResult r (λ _. WroteEncoding p limit w0 w1 text) (StoppedAtEnd p limit w0 w1 text) → IfErr r (λ e. EncodeStoppedIn p limit r0 r1 w0 w1 e)
ends_err p limit r0 r1 w0 w1 text (Ok u) all m = tt
ends_err p limit r0 r1 w0 w1 text (Err e) all m = stop_end p limit r0 r1 w0 w1 text e all m

-- what stopped it in a text stopped it at its end
pub stop_at_end : (p : KindSet) (limit : ℕ) (w0 w1 : SinkLog) (text : List ℕ) (e : ToolErr) → Stopped p limit w0 w1 text e → StoppedAtEnd p limit w0 w1 text e
stop_at_end p limit w0 w1 text (Listing n r) s = (s.0, s.1, subst (λ (x : List ℕ). RefusesIn p limit x n r s.0) (append-nil text) (s.2 []))
stop_at_end p limit w0 w1 text Write s = (s.0, s.1, inl s.2)
stop_at_end p limit w0 w1 text Memory s = s
stop_at_end p limit w0 w1 text Read s = absurd s
stop_at_end p limit w0 w1 text Bound s = absurd s
stop_at_end p limit w0 w1 text (Script at) s = absurd s
stop_at_end p limit w0 w1 text Hex s = absurd s
stop_at_end p limit w0 w1 text Broken s = absurd s
stop_at_end p limit w0 w1 text Early s = absurd s
stop_at_end p limit w0 w1 text (Peer status) s = absurd s
stop_at_end p limit w0 w1 text Strange s = absurd s
