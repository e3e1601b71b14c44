-- What encode does with --json, and how it is answered.
use Rattle.std.specs.Prelude.{◌≡◌, ℕ, ◌⊎◌, List, [], ◌∷◌, ◌++◌, Bool, true, false, Result, Ok, Err, codes, decimal}
use Rattle.llrp_schema.specs.declared.kinds.KindSet.{KindSet}
use Rattle.llrp_listing.specs.declared.devices.TheConstants.{MOST_READS}
use Rattle.llrp_listing.specs.declared.outcome.ToolErr.{ToolErr}
use Rattle.llrp_listing.specs.declared.outcome.ToolErr.TheVariants.{Read, Write, Bound, Memory}
use Rattle.llrp_listing.specs.Copying.{GaveAndFailed, IsPrefix, ReadAll}
use Rattle.llrp_listing.specs.Encoding.{WasRead}
use Rattle.llrp_listing.specs.Lines.{lines_of}
use Rattle.llrp_stream.specs.Device.{SourceLog, SinkLog, Gave, Wrote, WroteAndFailed}
use Rattle.llrp_json_read.specs.declared.refusal.Reason.{Reason}
use Rattle.llrp_json_read.specs.declared.refusal.RefusedLine.{RefusedLine}
use Rattle.llrp_json_read.specs.declared.run.LinesErr.{LinesErr}
use Rattle.llrp_json_read.specs.declared.run.LinesErr.TheVariants.{Line, Stopped}
use Rattle.llrp_json_read.specs.LinesRead.{AreLineFrames, EncodesLines, IsToldOf, RefusedIn}
use Rattle.llrp_json_read.specs.ObjectRefused.{Refused}
use Rattle.llrp_json_read.specs.Path.{reason_name}
use Rattle.llrp_commands.specs.Calls.Command.{Answers, digit_line}

-- ---- the line of a refusal

-- the path with a colon after it; none for the line as a whole
abbrev pub place_text : List ℕ → List ℕ
place_text [] = []
place_text (c ∷ path) = (c ∷ path) ++ codes ": "

-- the number of the line, after what begins an error line
abbrev pub number_text : ℕ → List ℕ
number_text number = codes "llrp: line " ++ (decimal number ++ codes ": ")

-- a reason, to the line's end
abbrev pub reason_text : Reason → List ℕ
reason_text reason = reason_name reason ++ codes "\n"

-- the line of a line of JSON that is refused, as llrp: line 3: parameters[1].AntennaID: Value
unfoldable pub json_refusal_line : RefusedLine → List ℕ
json_refusal_line line = number_text line.number ++ (place_text line.path.items ++ reason_text line.reason)

-- What a command that ended so answered: status 0, its refusal's line and status 1, or its error's line and status, or the Write that stopped that line.
abbrev pub AnswersLines : Result (Unit {0}) LinesErr → SinkLog → SinkLog → Result ℕ ToolErr → Type 0
AnswersLines (Ok u) e0 e1 answer = (answer ≡ Ok 0) × (e1 ≡ e0)
AnswersLines (Err (Stopped error)) e0 e1 answer = Answers (Err error) e0 e1 answer
AnswersLines (Err (Line line)) e0 e1 (Ok status) = (status ≡ 1) × Wrote e0 e1 (json_refusal_line line)
AnswersLines (Err (Line line)) e0 e1 (Err fault) = (fault ≡ Write) × (front : List ℕ) × IsPrefix front (json_refusal_line line) × WroteAndFailed e0 e1 front

-- ---- to hexadecimal digits

-- No frames were made of what was read, for this reason.
abbrev pub NotEncodedLines : KindSet → ℕ → SourceLog → SourceLog → LinesErr → Type 0
NotEncodedLines p limit r0 r1 (Line line) = (r : Refused) × (bytes : List ℕ) × IsToldOf r line × RefusedIn p limit r0 r1 line.number r bytes
NotEncodedLines p limit r0 r1 (Stopped Read) = (n : ℕ) × (front : List ℕ) × GaveAndFailed r0 r1 n front
NotEncodedLines p limit r0 r1 (Stopped Bound) = (front : List ℕ) × Gave r0 r1 MOST_READS front
NotEncodedLines p limit r0 r1 (Stopped Memory) = (front : List ℕ) × WasRead r0 r1 front
NotEncodedLines p limit r0 r1 (Stopped _) = ⊥

-- a front of the digits of the frames was written, and then a write failed
abbrev pub LineDigitsUnwritten : KindSet → ℕ → SourceLog → SourceLog → SinkLog → SinkLog → Type 0
LineDigitsUnwritten p limit r0 r1 w0 w1 = (text bytes front : List ℕ) × ReadAll r0 r1 text × AreLineFrames p limit (lines_of text) bytes × IsPrefix front (digit_line bytes) × WroteAndFailed w0 w1 front

-- What encode of lines to hexadecimal digits did, by its answer.
abbrev pub EncodesLineDigits : KindSet → ℕ → SourceLog → SourceLog → SinkLog → SinkLog → Result (Unit {0}) LinesErr → Type 0
EncodesLineDigits p limit r0 r1 w0 w1 (Ok u) = (text bytes : List ℕ) × ReadAll r0 r1 text × AreLineFrames p limit (lines_of text) bytes × Wrote w0 w1 (digit_line bytes)
EncodesLineDigits p limit r0 r1 w0 w1 (Err error) = ((w1 ≡ w0) × NotEncodedLines p limit r0 r1 error) ⊎ ((error ≡ Stopped Write) × LineDigitsUnwritten p limit r0 r1 w0 w1)

-- What encode of lines did in a set of kinds, with --hex or without.
abbrev pub DoesEncodeJson : Bool → KindSet → (limit : ℕ) → SourceLog → SourceLog → SinkLog → SinkLog → Result (Unit {0}) LinesErr → Type 0
DoesEncodeJson false p limit r0 r1 w0 w1 outcome = EncodesLines p limit r0 r1 w0 w1 outcome
DoesEncodeJson true p limit r0 r1 w0 w1 outcome = EncodesLineDigits p limit r0 r1 w0 w1 outcome
