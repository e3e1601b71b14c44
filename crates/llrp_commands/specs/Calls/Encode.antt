-- What encode does if the words ask for it.
use Rattle.std.specs.Prelude.{ℕ, ◌⊎◌, List, Bool, true, false, Result, codes}
use Rattle.clap.specs.Words.{Text}
use Rattle.llrp_schema.specs.declared.kinds.KindSet.{KindSet}
use Rattle.llrp_listing.specs.declared.outcome.ToolErr.{ToolErr}
use Rattle.llrp_stream.specs.Device.{SourceLog, SinkLog}
use Rattle.llrp_json_read.specs.declared.run.LinesErr.{LinesErr}
use Rattle.llrp_words.specs.Calls.Arguments.{Asks, AsksNoLabels}
use Rattle.llrp_commands.specs.Calls.Command.{Answers, DoesEncode, IsNotBegun, fine_status, set_of}
use Rattle.llrp_commands.specs.Calls.EncodeJson.{AnswersLines, DoesEncodeJson}

-- Encode ran to this answer, with --json or without.
abbrev pub EncodedTo : Bool → Bool → KindSet → (limit : ℕ) → SourceLog → SourceLog → SinkLog → SinkLog → SinkLog → SinkLog → Result ℕ ToolErr → Type 0
EncodedTo false hex p limit r0 r1 w0 w1 e0 e1 answer = (outcome : Result (Unit {0}) ToolErr) × DoesEncode hex p limit r0 r1 w0 w1 outcome × Answers (fine_status outcome) e0 e1 answer
EncodedTo true hex p limit r0 r1 w0 w1 e0 e1 answer = (outcome : Result (Unit {0}) LinesErr) × DoesEncodeJson hex p limit r0 r1 w0 w1 outcome × AnswersLines outcome e0 e1 answer

-- the same, or memory ran out before it began
abbrev pub RanEncode : Bool → Bool → KindSet → (limit : ℕ) → SourceLog → SourceLog → SinkLog → SinkLog → SinkLog → SinkLog → Result ℕ ToolErr → Type 0
RanEncode json hex p limit r0 r1 w0 w1 e0 e1 answer = IsNotBegun r0 r1 w0 w1 e0 e1 answer ⊎ EncodedTo json hex p limit r0 r1 w0 w1 e0 e1 answer

-- if the words ask for encode without labels, it ran so
abbrev pub EncodesIfAsked : List Text → SourceLog → SourceLog → SinkLog → SinkLog → SinkLog → SinkLog → Result ℕ ToolErr → Type 0
EncodesIfAsked words r0 r1 w0 w1 e0 e1 answer =
    (hex all json : Bool) (limit : ℕ) → Asks words (codes "encode") hex all json limit → AsksNoLabels words → RanEncode json hex (set_of all) limit r0 r1 w0 w1 e0 e1 answer
