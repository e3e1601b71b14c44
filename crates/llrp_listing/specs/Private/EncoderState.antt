-- The state of an encoder after a front of a text.
use Rattle.std.specs.Prelude.{◌≡◌, ◌+◌, ◌≤◌, ℕ, List, [], ◌∷◌, ◌++◌, length, MatchResult, Result, Ok, Err}
use Rattle.std.specs.Borrow.{Bor}
use Rattle.llrp_stream.specs.Device.{SinkLog}
use Rattle.llrp_listing.specs.Private.Encoder.{SaysAt, StandsAt, Stopped, StoppedAtEnd, WroteEncoding}
use Rattle.llrp_listing.specs.NodeLine.{NodeLine}
use Rattle.llrp_listing.specs.Calls.Splits.{Lacks}
use Rattle.llrp_listing.specs.declared.encode.Encoder.{Encoder}
use Rattle.llrp_listing.specs.declared.encode.buffer.EncodeBuffer.{EncodeBuffer}
use Rattle.llrp_listing.specs.declared.outcome.ToolErr.{ToolErr}
use Rattle.llrp_listing.specs.Private.EncodeBuffer.{CanStandAt}
use Rattle.llrp_listing.specs.Private.OpenNodes.{OpenNode, entries}
use Rattle.llrp_listing.specs.Private.TakingLines.{Rests}

-- These lines are open after this front of a text, and these octets of closed messages are not handed on.
pub record Stands (start now : SinkLog) (text : List ℕ) (encoder : Encoder) : Type 0 where
  pub out : List ℕ
  pub ns : List OpenNode
  pub rests : Rests encoder.writer out ns
  pub after : StandsAt encoder.guess encoder.writer.limit start now text (entries ns) encoder.number encoder.line.items out

-- there is such a state
abbrev pub StandsSome : SinkLog → Encoder → Type 0
StandsSome now encoder = (start : SinkLog) × (text : List ℕ) × Stands start now text encoder

-- a line of this level can be taken where these lines are open
abbrev pub CanTake : EncodeBuffer → ℕ → NodeLine → Type 0
CanTake writer level line = (out : List ℕ) × (ns : List OpenNode) × Rests writer out ns × CanStandAt level (length ns) line

-- ---- what a call makes of it

-- the encoder stands after this text, or stopped in it
abbrev pub StandsOrStopped : SinkLog → SinkLog → List ℕ → Encoder → Encoder → Result (Unit {0}) ToolErr → Type 0
StandsOrStopped start w1 text old new answer = MatchResult answer (λ _. Stands start w1 text new) (Stopped old.guess old.writer.limit start w1 text)

-- after whatever text it stood, it took this piece, or stopped in it
abbrev pub TakesPiece : List ℕ → SinkLog → SinkLog → Encoder → Encoder → Result (Unit {0}) ToolErr → Type 0
TakesPiece piece w0 w1 old new answer = (start : SinkLog) (text : List ℕ) → Stands start w0 text old → StandsOrStopped start w1 (text ++ piece) old new answer

-- the same of a part of a line
abbrev pub TakesPart : List ℕ → SinkLog → SinkLog → Encoder → Encoder → Result (Unit {0}) ToolErr → Type 0
TakesPart part w0 w1 old new answer =
    (start : SinkLog) (text : List ℕ) → Lacks 10 part → Stands start w0 text old → StandsOrStopped start w1 (text ++ part) old new answer

-- the same of the last part of a line, with the line's end
abbrev pub TakesLine : List ℕ → SinkLog → SinkLog → Encoder → Encoder → Result (Unit {0}) ToolErr → Type 0
TakesLine part w0 w1 old new answer =
    (start : SinkLog) (text : List ℕ) → Lacks 10 part → Stands start w0 text old → StandsOrStopped start w1 (text ++ (part ++ (10 ∷ []))) old new answer

-- the same where the whole line was read as this, at this level
abbrev pub TakesSaid : ℕ → NodeLine → SinkLog → SinkLog → Encoder → Encoder → Result (Unit {0}) ToolErr → Type 0
TakesSaid level line w0 w1 old new answer =
    (start : SinkLog) (text begun part out : List ℕ) (ns : List OpenNode) → Rests old.writer out ns
    → StandsAt old.guess old.writer.limit start w0 text (entries ns) old.number begun out → Lacks 10 part
    → SaysAt old.guess (length (entries ns)) (begun ++ part) level line
    → StandsOrStopped start w1 (text ++ (part ++ (10 ∷ []))) old new answer

-- after whatever text it stood, it wrote the encoding of that, or stopped at its end
abbrev pub EndsText : SinkLog → SinkLog → Encoder → Result (Unit {0}) ToolErr → Type 0
EndsText w0 w1 encoder answer =
    (start : SinkLog) (text : List ℕ) → Stands start w0 text encoder
    → MatchResult answer (λ _. WroteEncoding encoder.guess encoder.writer.limit start w1 text) (StoppedAtEnd encoder.guess encoder.writer.limit start w1 text)

-- Whole lines at the front of a text were taken, and this is left.
pub record TakesFront (text rest : List ℕ) (w0 w1 : SinkLog) (old new : Encoder) : Type 0 where
  pub taken : List ℕ
  pub parts : text ≡ taken ++ rest
  pub stands : (start : SinkLog) (before : List ℕ) → Stands start w0 before old → Stands start w1 (before ++ taken) new
  pub number : new.number ≤ old.number + length taken
  pub set : new.guess ≡ old.guess
  pub limit : new.writer.limit ≡ old.writer.limit
  pub sink : w1.failures ≡ w0.failures

-- after whatever text it stood, it took lines at the front of this one, or stopped in it
abbrev pub TakesValues : List ℕ → SinkLog → SinkLog → Encoder → Encoder → Result (Bor (List ℕ)) ToolErr → Type 0
TakesValues text w0 w1 old new (Ok rest) = TakesFront text rest.now w0 w1 old new
TakesValues text w0 w1 old new (Err e) = (start : SinkLog) (before : List ℕ) → Stands start w0 before old → Stopped old.guess old.writer.limit start w1 (before ++ text) e
