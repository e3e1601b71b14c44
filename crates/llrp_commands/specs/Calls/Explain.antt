-- What `llrp explain` does.
use Rattle.std.specs.Prelude.{◌≡◌, ◌⊎◌, ℕ, List, ◌++◌, Bool, true, false, Option, Some, Result, Ok, Err}
use Rattle.std.specs.List.{AllByRecursion}
use Rattle.clap.specs.Words.{Text}
use Rattle.llrp_schema.specs.declared.kinds.KindSet.{KindSet}
use Rattle.llrp_explain.specs.declared.form.Form.{Form}
use Rattle.llrp_explain.specs.declared.form.Form.TheVariants as form
use Rattle.llrp_explain.specs.Calls.Explained.{AreExplained, ExplainsOnly}
use Rattle.llrp_listing.specs.declared.outcome.ToolErr.{ToolErr}
use Rattle.llrp_listing.specs.declared.outcome.ToolErr.TheVariants.{Bound, Hex, Memory, Read, Write}
use Rattle.llrp_listing.specs.declared.outcome.Verdict.{Verdict}
use Rattle.llrp_listing.specs.declared.devices.TheConstants.{MOST_READS}
use Rattle.llrp_listing.specs.Copying.{GaveAndFailed, IsPrefix, ReadAll}
use Rattle.llrp_listing.specs.Calls.Hexadecimal.{IsHexOf}
use Rattle.llrp_listing.specs.Encoding.{WasRead}
use Rattle.llrp_listing.specs.Show.{verdict_of}
use Rattle.llrp_stream.specs.Cuts.{Breaks, IsFrame, IsPartial, joined}
use Rattle.llrp_stream.specs.Device.{Gave, SourceLog, SinkLog, Wrote, WroteAndFailed}
use Rattle.llrp_words.specs.Calls.Arguments.{AsksExplain}
use Rattle.llrp_commands.specs.Calls.Digits.{Spells, SpellsFront}
use Rattle.llrp_commands.specs.Calls.Command.{Answers, IsNotBegun, set_of, verdict_status}

-- ---- bytes, frame by frame

-- The text of each frame that is whole in the bytes was written, if it is asked for; what comes after them is less than a frame, or no front of one.
pub record WroteWhole (form : Form) (only : Option ℕ) (p : KindSet) (limit : ℕ) (bytes : List ℕ) (w0 w1 : SinkLog) : Type 0 where
  pub frames : List (List ℕ)
  pub rest : List ℕ
  pub text : List ℕ
  pub all : Bool
  pub whole : bytes ≡ joined frames ++ rest
  pub each : AllByRecursion IsFrame frames
  pub unfinished : IsPartial rest ⊎ Breaks rest
  pub are : AreExplained form only p limit 1 frames text all
  pub written : Wrote w0 w1 text

-- all was read, or a front in which the stream breaks: whatever follows, the text is the same
abbrev pub ReadEnough : Form → (only : Option ℕ) → KindSet → (limit : ℕ) → SourceLog → SourceLog → (text : List ℕ) → Bool → Type 0
ReadEnough form only p limit r0 r1 text lawful =
    ((bytes : List ℕ) × ReadAll r0 r1 bytes × ExplainsOnly form only p limit bytes text lawful)
    ⊎ ((n : ℕ) × (bytes : List ℕ) × Gave r0 r1 n bytes × ((more : List ℕ) → ExplainsOnly form only p limit (bytes ++ more) text lawful))

-- Explain of bytes stopped: after a failed read the text of the frames that are whole was written, after a failed write a front of the text of what was read, and where memory ran out the text of the frames that are whole in a front of it.
abbrev pub ExplainStopped : Form → (only : Option ℕ) → KindSet → (limit : ℕ) → SourceLog → SourceLog → SinkLog → SinkLog → ToolErr → Type 0
ExplainStopped form only p limit r0 r1 w0 w1 Read = (n : ℕ) × (bytes : List ℕ) × GaveAndFailed r0 r1 n bytes × WroteWhole form only p limit bytes w0 w1
ExplainStopped form only p limit r0 r1 w0 w1 Bound = (bytes : List ℕ) × Gave r0 r1 MOST_READS bytes × WroteWhole form only p limit bytes w0 w1
ExplainStopped form only p limit r0 r1 w0 w1 Write = (bytes text front : List ℕ) × (lawful : Bool) × WasRead r0 r1 bytes × ExplainsOnly form only p limit bytes text lawful × IsPrefix front text × WroteAndFailed w0 w1 front
ExplainStopped form only p limit r0 r1 w0 w1 Memory = (bytes more : List ℕ) × WasRead r0 r1 (bytes ++ more) × WroteWhole form only p limit bytes w0 w1
ExplainStopped form only p limit r0 r1 w0 w1 _ = ⊥

-- What explain of bytes did, by its answer.
abbrev pub ExplainsBytes : Form → (only : Option ℕ) → KindSet → (limit : ℕ) → SourceLog → SourceLog → SinkLog → SinkLog → Result Verdict ToolErr → Type 0
ExplainsBytes form only p limit r0 r1 w0 w1 (Ok verdict) = (text : List ℕ) × (lawful : Bool) × ReadEnough form only p limit r0 r1 text lawful × Wrote w0 w1 text × (verdict ≡ verdict_of lawful)
ExplainsBytes form only p limit r0 r1 w0 w1 (Err error) = ExplainStopped form only p limit r0 r1 w0 w1 error

-- ---- hexadecimal digits, frame by frame

-- all was read, and spells octets; or what was read spells octets in which the stream breaks: whatever follows, the text is the same
abbrev pub ReadEnoughDigits : Form → (only : Option ℕ) → KindSet → (limit : ℕ) → SourceLog → SourceLog → (text : List ℕ) → Bool → Type 0
ReadEnoughDigits form only p limit r0 r1 text lawful =
    ((digits octets : List ℕ) × ReadAll r0 r1 digits × IsHexOf digits octets × ExplainsOnly form only p limit octets text lawful)
    ⊎ ((n : ℕ) × (digits octets : List ℕ) × (half : Option ℕ) × (right : Bool) × Gave r0 r1 n digits × Spells digits octets half right × ((more : List ℕ) → ExplainsOnly form only p limit (octets ++ more) text lawful))

-- What was read is no hexadecimal: these octets are spelled before the first octet in it that is neither digit nor space; or all was read, and after them a first digit has no second.
abbrev pub IsMisspelled : SourceLog → SourceLog → (octets : List ℕ) → Type 0
IsMisspelled r0 r1 octets =
    ((n : ℕ) × (digits : List ℕ) × (half : Option ℕ) × Gave r0 r1 n digits × Spells digits octets half false)
    ⊎ ((digits : List ℕ) × (high : ℕ) × ReadAll r0 r1 digits × SpellsFront digits octets (Some high))

-- Explain of digits stopped, as explain of the octets that they spell does; or what was read is no hexadecimal, and the text of the frames that are whole before that was written.
abbrev pub DigitsStopped : Form → (only : Option ℕ) → KindSet → (limit : ℕ) → SourceLog → SourceLog → SinkLog → SinkLog → ToolErr → Type 0
DigitsStopped form only p limit r0 r1 w0 w1 Read = (n : ℕ) × (digits octets : List ℕ) × (half : Option ℕ) × GaveAndFailed r0 r1 n digits × SpellsFront digits octets half × WroteWhole form only p limit octets w0 w1
DigitsStopped form only p limit r0 r1 w0 w1 Bound = (digits octets : List ℕ) × (half : Option ℕ) × Gave r0 r1 MOST_READS digits × SpellsFront digits octets half × WroteWhole form only p limit octets w0 w1
DigitsStopped form only p limit r0 r1 w0 w1 Write =
    (digits octets text front : List ℕ) × (half : Option ℕ) × (right lawful : Bool) × WasRead r0 r1 digits × Spells digits octets half right × ExplainsOnly form only p limit octets text lawful × IsPrefix front text × WroteAndFailed w0 w1 front
DigitsStopped form only p limit r0 r1 w0 w1 Memory = (digits more octets : List ℕ) × (half : Option ℕ) × WasRead r0 r1 (digits ++ more) × SpellsFront digits octets half × WroteWhole form only p limit octets w0 w1
DigitsStopped form only p limit r0 r1 w0 w1 Hex = (octets : List ℕ) × IsMisspelled r0 r1 octets × WroteWhole form only p limit octets w0 w1
DigitsStopped form only p limit r0 r1 w0 w1 _ = ⊥

-- What explain of digits did, by its answer.
abbrev pub ExplainsDigits : Form → (only : Option ℕ) → KindSet → (limit : ℕ) → SourceLog → SourceLog → SinkLog → SinkLog → Result Verdict ToolErr → Type 0
ExplainsDigits form only p limit r0 r1 w0 w1 (Ok verdict) = (text : List ℕ) × (lawful : Bool) × ReadEnoughDigits form only p limit r0 r1 text lawful × Wrote w0 w1 text × (verdict ≡ verdict_of lawful)
ExplainsDigits form only p limit r0 r1 w0 w1 (Err error) = DigitsStopped form only p limit r0 r1 w0 w1 error

-- ---- the command

-- what explain did, with --hex or without
abbrev pub DoesExplain : Form → (only : Option ℕ) → Bool → KindSet → (limit : ℕ) → SourceLog → SourceLog → SinkLog → SinkLog → Result Verdict ToolErr → Type 0
DoesExplain form only false p limit r0 r1 w0 w1 outcome = ExplainsBytes form only p limit r0 r1 w0 w1 outcome
DoesExplain form only true p limit r0 r1 w0 w1 outcome = ExplainsDigits form only p limit r0 r1 w0 w1 outcome

-- what is written of a frame, with --json or without
abbrev pub form_of : Bool → Form
form_of false = form.Text
form_of true = form.Json

-- Explain ran to this answer.
abbrev pub RanExplain : Form → (only : Option ℕ) → Bool → KindSet → (limit : ℕ) → SourceLog → SourceLog → SinkLog → SinkLog → SinkLog → SinkLog → Result ℕ ToolErr → Type 0
RanExplain form only hex p limit r0 r1 w0 w1 e0 e1 answer =
    IsNotBegun r0 r1 w0 w1 e0 e1 answer
    ⊎ ((outcome : Result Verdict ToolErr) × DoesExplain form only hex p limit r0 r1 w0 w1 outcome × Answers (verdict_status outcome) e0 e1 answer)

-- if the words ask for explain, it ran so: of one id's frames where they have --only, and else of all
abbrev pub ExplainsIfAsked : List Text → SourceLog → SourceLog → SinkLog → SinkLog → SinkLog → SinkLog → Result ℕ ToolErr → Type 0
ExplainsIfAsked words r0 r1 w0 w1 e0 e1 answer =
    (hex all json : Bool) (only : Option ℕ) (limit : ℕ) → AsksExplain words hex all json only limit → RanExplain (form_of json) only hex (set_of all) limit r0 r1 w0 w1 e0 e1 answer
