-- What `llrp fields` does.
use Rattle.std.specs.Prelude.{◌≡◌, ℕ, ◌⊎◌, List, [], ◌∷◌, Bool, true, false, Option, Some, None, ◌++◌, Result, Ok, Err, codes, unwrap_or}
use Rattle.clap.specs.Words.{Text}
use Rattle.llrp_schema.specs.declared.kinds.KindSet.{KindSet}
use Rattle.llrp_explain.specs.Calls.KindTexts.{table_text, texts_named}
use Rattle.llrp_explain.specs.Calls.Nearest.{nearest_text}
use Rattle.llrp_listing.specs.declared.outcome.ToolErr.{ToolErr}
use Rattle.llrp_listing.specs.declared.outcome.ToolErr.TheVariants.{Memory, Write}
use Rattle.llrp_listing.specs.Copying.{IsPrefix}
use Rattle.llrp_stream.specs.Device.{SourceLog, SinkLog, Wrote, WroteAndFailed}
use Rattle.llrp_words.specs.Calls.Arguments.{AsksFields}
use Rattle.llrp_commands.specs.Calls.Command.{Answers, IsNotBegun, set_of}

-- the line of the kind with a name, or with no name the lines of all kinds
abbrev pub lines_of : KindSet → Option Text → List ℕ
lines_of set None = table_text set
lines_of set (Some name) = texts_named set name

-- whether there is a line
abbrev pub HasLine : List ℕ → Bool → Type 0
HasLine [] found = found ≡ false
HasLine (c ∷ text) found = found ≡ true

-- What fields did: it wrote the lines, and says whether there is one; memory ran out before, or a write failed within them.
abbrev pub DoesFields : KindSet → Option Text → SinkLog → SinkLog → Result Bool ToolErr → Type 0
DoesFields set name w0 w1 (Ok found) = Wrote w0 w1 (lines_of set name) × HasLine (lines_of set name) found
DoesFields set name w0 w1 (Err error) =
    ((error ≡ Memory) × (w1 ≡ w0)) ⊎ ((error ≡ Write) × (front : List ℕ) × IsPrefix front (lines_of set name) × WroteAndFailed w0 w1 front)

-- the line of an error where no kind of the set has the name: the names that are nearest; it ends with LF (10)
abbrev pub no_name : KindSet → Text → List ℕ
no_name set name = codes "llrp: name; nearest: " ++ (nearest_text set name ++ (10 ∷ []))

-- How fields with a name was answered: status 0 where there is a line, and 1 with an error where no kind has the name; memory can run out before that is
-- written.
abbrev pub AnswersFields : KindSet → Text → Result Bool ToolErr → SinkLog → SinkLog → Result ℕ ToolErr → Type 0
AnswersFields set name (Ok true) e0 e1 answer = Answers (Ok 0) e0 e1 answer
AnswersFields set name (Ok false) e0 e1 (Ok status) = (status ≡ 1) × Wrote e0 e1 (no_name set name)
AnswersFields set name (Ok false) e0 e1 (Err fault) =
    ((fault ≡ Memory) × (e1 ≡ e0)) ⊎ ((fault ≡ Write) × (front : List ℕ) × IsPrefix front (no_name set name) × WroteAndFailed e0 e1 front)
AnswersFields set name (Err error) e0 e1 answer = Answers (Err error) e0 e1 answer

-- Fields ran to this answer. It reads nothing.
abbrev pub RanFields : Bool → Option Text → SourceLog → SourceLog → SinkLog → SinkLog → SinkLog → SinkLog → Result ℕ ToolErr → Type 0
RanFields all name r0 r1 w0 w1 e0 e1 answer =
    IsNotBegun r0 r1 w0 w1 e0 e1 answer
    ⊎ ((outcome : Result Bool ToolErr) × (r1 ≡ r0) × DoesFields (set_of all) name w0 w1 outcome × AnswersFields (set_of all) (unwrap_or name []) outcome e0 e1 answer)

-- if the words ask for fields, it ran so
abbrev pub FieldsIfAsked : List Text → SourceLog → SourceLog → SinkLog → SinkLog → SinkLog → SinkLog → Result ℕ ToolErr → Type 0
FieldsIfAsked words r0 r1 w0 w1 e0 e1 answer = (all : Bool) (name : Option Text) → AsksFields words all name → RanFields all name r0 r1 w0 w1 e0 e1 answer
