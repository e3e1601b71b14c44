-- Lines of JSON that come in pieces.
use Rattle.std.specs.Prelude.{◌≡◌, ◌<◌, ℕ, List, [], ◌++◌, length, Result, Ok, Err}
use Rattle.llrp_schema.specs.declared.kinds.KindSet.{KindSet}
use Rattle.llrp_tree.specs.Frame.{Frame}
use Rattle.llrp_tree.specs.Tree.{MessageTree}
use Rattle.llrp_stream.specs.Device.{SinkLog, Wrote}
use Rattle.llrp_listing.specs.declared.outcome.ToolErr.TheVariants as tool
use Rattle.llrp_listing.specs.Calls.Copying.{Writes}
use Rattle.llrp_listing.specs.Lines.{TextLine, NoLf, lines_of}
use Rattle.llrp_json_read.specs.declared.refusal.ReadErr.{ReadErr}
use Rattle.llrp_json_read.specs.declared.refusal.ReadErr.TheVariants as error
use Rattle.llrp_json_read.specs.declared.refusal.Reason.TheVariants as reason
use Rattle.llrp_json_read.specs.declared.run.Lines.{Lines}
use Rattle.llrp_json_read.specs.declared.run.LinesErr.{LinesErr}
use Rattle.llrp_json_read.specs.declared.run.LinesErr.TheVariants as lines
use Rattle.llrp_json_read.specs.declared.run.TakeErr.{TakeErr}
use Rattle.llrp_json_read.specs.declared.run.TakeErr.TheVariants.{Line, Memory}
use Rattle.llrp_json_read.specs.Calls.ReadErrors.{told}
use Rattle.llrp_json_read.specs.JsonLine.{RefusesLineWithin, SaysLine}
use Rattle.llrp_json_read.specs.LinesRead.{AreLineFrames, EncodesEnded, IsToldOf, RefusesText, longest}
use Rattle.llrp_json_read.specs.ObjectRefused.{Refused}

-- The bytes are the frames of the lines that end in this text, and these lines stand after it.
pub record Stands (p : KindSet) (limit : ℕ) (text : List ℕ) (now : Lines) (bytes : List ℕ) : Type 0 where
  pub front : List TextLine
  pub unended : NoLf now.line.items
  pub cuts : (more : List ℕ) → lines_of (text ++ more) ≡ front ++ lines_of (now.line.items ++ more)
  pub counted : now.number ≡ length front
  pub frames : AreLineFrames p limit front bytes

-- ---- what a call makes of a line

-- memory ran out, or it is the refusal of the line with this number, which is too long
abbrev pub IsTooLong : ℕ → ℕ → List ℕ → TakeErr → Type 0
IsTooLong limit number octets Memory = Unit {0}
IsTooLong limit number octets (Line line) = (line.number ≡ number) × (line.path.items ≡ []) × (line.reason ≡ reason.Line) × (longest limit < length octets)

-- memory ran out, or it is this refusal of the line with this number
abbrev pub IsTold : ℕ → ReadErr → TakeErr → Type 0
IsTold number e Memory = Unit {0}
IsTold number error.Memory (Line line) = ⊥
IsTold number (error.Refused refusal) (Line line) = (line.number ≡ number) × IsToldOf (told refusal) line

-- the frame of the line with this number was appended, or the line is refused
abbrev pub EndsLine : KindSet → ℕ → List ℕ → ℕ → List ℕ → List ℕ → Result (Unit {0}) TakeErr → Type 0
EndsLine p limit octets number old new (Ok u) = (m : MessageTree) × (frame : List ℕ) × SaysLine p octets m × Frame m frame limit × (new ≡ old ++ frame)
EndsLine p limit octets number old new (Err Memory) = new ≡ old
EndsLine p limit octets number old new (Err (Line line)) = (r : Refused) × (line.number ≡ number) × IsToldOf r line × RefusesLineWithin p limit octets r × (new ≡ old)

-- ---- what a call makes of a text

-- the bytes are the frames of the lines that end in a front of the text
abbrev pub StopsWithin : KindSet → ℕ → List ℕ → List ℕ → Type 0
StopsWithin p limit text bytes = (front back : List ℕ) × (text ≡ front ++ back) × EncodesEnded p limit front bytes

-- memory ran out, or a line of each text that begins so is refused
abbrev pub Refuses : KindSet → ℕ → List ℕ → List ℕ → TakeErr → Type 0
Refuses p limit text bytes Memory = Unit {0}
Refuses p limit text bytes (Line line) = (r : Refused) × IsToldOf r line × ((more : List ℕ) → RefusesText p limit (text ++ more) line.number r bytes)

-- after this text, where these frames stood before the appended ones
abbrev pub Takes : KindSet → ℕ → List ℕ → List ℕ → Lines → Result (Unit {0}) TakeErr → Type 0
Takes p limit text bytes new (Ok u) = Stands p limit text new bytes
Takes p limit text bytes new (Err e) = StopsWithin p limit text bytes × Refuses p limit text bytes e

-- after whatever text they stood, the frames of the lines that end in this piece were appended, or of those before one that is refused
abbrev pub TakesPiece : KindSet → ℕ → List ℕ → Lines → Lines → List ℕ → List ℕ → Result (Unit {0}) TakeErr → Type 0
TakesPiece p limit piece old new out0 out1 answer =
    (text bytes : List ℕ) → Stands p limit text old bytes → (more : List ℕ) × (out1 ≡ out0 ++ more) × Takes p limit (text ++ piece) (bytes ++ more) new answer

-- the frames are those of all lines of a text, or its last line is refused
abbrev pub IsEnded : KindSet → ℕ → List ℕ → List ℕ → Result (Unit {0}) TakeErr → Type 0
IsEnded p limit text bytes (Ok u) = AreLineFrames p limit (lines_of text) bytes
IsEnded p limit text bytes (Err Memory) = EncodesEnded p limit text bytes
IsEnded p limit text bytes (Err (Line line)) = EncodesEnded p limit text bytes × (r : Refused) × IsToldOf r line × RefusesText p limit text line.number r bytes

-- after whatever text they stood, the frame of its last line was appended if that has no LF
abbrev pub EndsText : KindSet → ℕ → Lines → List ℕ → List ℕ → Result (Unit {0}) TakeErr → Type 0
EndsText p limit old out0 out1 answer = (text bytes : List ℕ) → Stands p limit text old bytes → (more : List ℕ) × (out1 ≡ out0 ++ more) × IsEnded p limit text (bytes ++ more) answer

-- the frames were written before a refusal, and nothing where memory ran out
abbrev pub Withdraws : TakeErr → List ℕ → SinkLog → SinkLog → LinesErr → Type 0
Withdraws Memory out w0 w1 e = (e ≡ lines.Stopped tool.Memory) × (w1 ≡ w0)
Withdraws (Line line) out w0 w1 (lines.Line same) = (same ≡ line) × Wrote w0 w1 out
Withdraws (Line line) out w0 w1 (lines.Stopped e) = Writes out w0 w1 (Err e)

-- ---- the whole text

-- the error of a text that was not taken
abbrev pub lines_error : TakeErr → LinesErr
lines_error Memory = lines.Stopped tool.Memory
lines_error (Line line) = lines.Line line
