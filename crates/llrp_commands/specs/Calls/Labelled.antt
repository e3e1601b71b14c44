-- What show and encode do with --keys and --schemes.
use Rattle.std.specs.Prelude.{◌≡◌, ◌⊎◌, ◌||◌, ℕ, List, ◌++◌, Bool, true, false, Option, Some, None, Result, Ok, Err, codes, decimal}
use Rattle.std.specs.Option.{is_some}
use Rattle.clap.specs.Words.{Row, Text}
use Rattle.llrp_schema.specs.declared.kinds.KindSet.{KindSet}
use Rattle.llrp_stream.specs.Device.{SourceLog, SinkLog, Wrote, WroteAndFailed}
use Rattle.llrp_stream.specs.Calls.Device.{new_source}
use Rattle.llrp_listing.specs.declared.outcome.ToolErr.{ToolErr}
use Rattle.llrp_listing.specs.declared.outcome.ToolErr.TheVariants.{Write, Memory}
use Rattle.llrp_listing.specs.declared.outcome.Verdict.{Verdict}
use Rattle.llrp_listing.specs.Copying.{IsPrefix, ReadAll}
use Rattle.llrp_listing.specs.Calls.Copying.{ReadStopped}
use Rattle.llrp_labels.specs.declared.labels.Labels.{Labels}
use Rattle.llrp_labels.specs.declared.fault.LabelErr.{LabelErr}
use Rattle.llrp_labels.specs.declared.fault.LabelErr.TheVariants.{Line, Stopped}
use Rattle.llrp_labels.specs.declared.fault.LabelFault.{LabelFault}
use Rattle.llrp_labels.specs.LabelledTexts.{IsPlainText, RefusesAt}
use Rattle.llrp_labels.specs.LabelledRuns.{ShowsLabelled, label_fault_name}
use Rattle.llrp_words.specs.Calls.Arguments.{Asks, AsksLabels, AsksSegments, asks_segments, command_in, word_in}
use Rattle.llrp_commands.specs.Calls.Command.{Answers, DoesEncode, IsNotBegun, set_of, verdict_status}
use Rattle.llrp_commands.specs.Calls.ShowNames.{AnswersMistake}

-- whether the words ask for labels
abbrev pub asks_labels : Bool → Option Text → Bool
asks_labels keys schemes = keys || is_some schemes

-- the word of --schemes asks for all schemes, or there is none
abbrev pub IsSchemes : Option Text → Bool → Type 0
IsSchemes None all = all ≡ false
IsSchemes (Some word) all = (word ≡ codes "all") × (all ≡ true)

-- the words ask for these labels, with no option that does not go with labels
abbrev pub MeansLabels : Bool → Bool → Option Text → Labels → Type 0
MeansLabels other keys schemes labels = (other ≡ false) × (labels.keys ≡ keys) × IsSchemes schemes labels.schemes

-- show with labels was answered so: it showed the listing with them, or the words go with no labels, and nothing was read or written
abbrev pub ShownTo : Bool → Bool → Option Text → Bool → KindSet → (limit : ℕ) → SourceLog → SourceLog → SinkLog → SinkLog → SinkLog → SinkLog → Result ℕ ToolErr → Type 0
ShownTo other keys schemes hex p limit r0 r1 w0 w1 e0 e1 answer =
    ((labels : Labels) × (outcome : Result Verdict ToolErr) × MeansLabels other keys schemes labels × ShowsLabelled labels hex p limit r0 r1 w0 w1 outcome × Answers (verdict_status outcome) e0 e1 answer)
    ⊎ (((labels : Labels) → MeansLabels other keys schemes labels → ⊥) × (r1 ≡ r0) × (w1 ≡ w0) × AnswersMistake e0 e1 answer)

-- What encode of a listing with labels did, by its answer: it encoded the listing without them, all of which was read first.
abbrev pub EncodesLabelled : Labels → Bool → KindSet → (limit : ℕ) → SourceLog → SourceLog → SinkLog → SinkLog → Result (Unit {0}) LabelErr → Type 0
EncodesLabelled labels hex p limit r0 r1 w0 w1 (Ok u) = (text plain : List ℕ) × (s : SourceLog) × ReadAll r0 r1 text × IsPlainText labels text plain × DoesEncode hex p limit (new_source (Some plain)) s w0 w1 (Ok u)
EncodesLabelled labels hex p limit r0 r1 w0 w1 (Err (Line number fault)) = (text : List ℕ) × ReadAll r0 r1 text × RefusesAt labels text number fault × (w1 ≡ w0)
EncodesLabelled labels hex p limit r0 r1 w0 w1 (Err (Stopped error)) =
    ((text : List ℕ) × (ReadStopped r0 r1 text error ⊎ (ReadAll r0 r1 text × (error ≡ Memory))) × (w1 ≡ w0))
    ⊎ ((text plain : List ℕ) × (s : SourceLog) × ReadAll r0 r1 text × IsPlainText labels text plain × DoesEncode hex p limit (new_source (Some plain)) s w0 w1 (Err error))

-- the line of a line with labels that is refused, as llrp: line 3: Epc Key
unfoldable pub label_line : ℕ → LabelFault → List ℕ
label_line number fault = codes "llrp: line " ++ (decimal number ++ (codes ": " ++ (label_fault_name fault ++ codes "\n")))

-- What encode with labels answered: status 0, its refusal's line and status 1, or its error's line and status, or the Write that stopped that line.
abbrev pub AnswersLabels : Result (Unit {0}) LabelErr → SinkLog → SinkLog → Result ℕ ToolErr → Type 0
AnswersLabels (Ok u) e0 e1 answer = (answer ≡ Ok 0) × (e1 ≡ e0)
AnswersLabels (Err (Stopped error)) e0 e1 answer = Answers (Err error) e0 e1 answer
AnswersLabels (Err (Line number fault)) e0 e1 (Ok status) = (status ≡ 1) × Wrote e0 e1 (label_line number fault)
AnswersLabels (Err (Line number fault)) e0 e1 (Err error) = (error ≡ Write) × (front : List ℕ) × IsPrefix front (label_line number fault) × WroteAndFailed e0 e1 front

-- encode with labels was answered so
abbrev pub LabelsEncodedTo : Bool → Bool → Option Text → Bool → KindSet → (limit : ℕ) → SourceLog → SourceLog → SinkLog → SinkLog → SinkLog → SinkLog → Result ℕ ToolErr → Type 0
LabelsEncodedTo other keys schemes hex p limit r0 r1 w0 w1 e0 e1 answer =
    ((labels : Labels) × (outcome : Result (Unit {0}) LabelErr) × MeansLabels other keys schemes labels × EncodesLabelled labels hex p limit r0 r1 w0 w1 outcome × AnswersLabels outcome e0 e1 answer)
    ⊎ (((labels : Labels) → MeansLabels other keys schemes labels → ⊥) × (r1 ≡ r0) × (w1 ≡ w0) × AnswersMistake e0 e1 answer)

-- whether one of the options is there that change what show reads or prints
abbrev pub goes_with_none : Option (Text × List Row) → (segments : Bool) → (port : Option Text) → Bool
goes_with_none found segments port = is_some (word_in (codes "names") found) || asks_segments segments port

-- if the words ask for show with labels, it ran so, or memory ran out before it began; --json, --names, --segments and --port go with no labels
abbrev pub LabelsShownIfAsked : List Text → SourceLog → SourceLog → SinkLog → SinkLog → SinkLog → SinkLog → Result ℕ ToolErr → Type 0
LabelsShownIfAsked words r0 r1 w0 w1 e0 e1 answer =
    (hex all json keys segments : Bool) (limit : ℕ) (schemes port : Option Text) → Asks words (codes "show") hex all json limit → AsksLabels words keys schemes → AsksSegments words segments port → asks_labels keys schemes ≡ true
    → IsNotBegun r0 r1 w0 w1 e0 e1 answer ⊎ ShownTo (json || goes_with_none (command_in words) segments port) keys schemes hex (set_of all) limit r0 r1 w0 w1 e0 e1 answer

-- the same of encode; --json goes with no labels
abbrev pub LabelsEncodedIfAsked : List Text → SourceLog → SourceLog → SinkLog → SinkLog → SinkLog → SinkLog → Result ℕ ToolErr → Type 0
LabelsEncodedIfAsked words r0 r1 w0 w1 e0 e1 answer =
    (hex all json keys : Bool) (limit : ℕ) (schemes : Option Text) → Asks words (codes "encode") hex all json limit → AsksLabels words keys schemes → asks_labels keys schemes ≡ true
    → IsNotBegun r0 r1 w0 w1 e0 e1 answer ⊎ LabelsEncodedTo json keys schemes hex (set_of all) limit r0 r1 w0 w1 e0 e1 answer
