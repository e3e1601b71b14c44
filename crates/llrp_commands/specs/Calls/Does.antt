-- What the program does for the words after its name, and how it ends.
use Rattle.std.specs.Prelude.{◌≡◌, ◌⊎◌, ◌≤◌, ◌<◌, ℕ, List, [], Bool, true, false, Option, Some, None, Result, Ok, unwrap_or}
use Rattle.std.specs.Str.Parse.{IsNumeral, digits_value, without_leading_plus}
use Rattle.clap.specs.Words.{Text}
use Rattle.tag_forms.specs.declared.company.Company.TheVariants.{Digits}
use Rattle.llrp_stream.specs.Device.{SourceLog, SinkLog}
use Rattle.llrp_listing.specs.declared.outcome.ToolErr.{ToolErr}
use Rattle.llrp_listing.specs.declared.outcome.Verdict.{Verdict}
use Rattle.llrp_json.specs.declared.names.Names.{Names}
use Rattle.llrp_json.specs.declared.names.Names.TheVariants.{Own}
use Rattle.llrp_listing.specs.Calls.Copying.{Writes}
use Rattle.llrp_labels.specs.declared.fault.LabelErr.{LabelErr}
use Rattle.llrp_labels.specs.declared.labels.Labels.{Labels}
use Rattle.llrp_labels.specs.LabelledRuns.{ShowsLabelled}
use Rattle.llrp_words.specs.Calls.Arguments.{asks_segments}
use Rattle.llrp_words.specs.Calls.Asked.{Asked, show, encode, epc, fields, explain, elsewhere, nothing, asked, Show, Encode, Epc, Fields, Explain}
use Rattle.llrp_commands.specs.Calls.Command.{Answers, DoesShow, IsNotBegun, fine_status, set_of, verdict_status}
use Rattle.llrp_commands.specs.Calls.Encode.{EncodedTo}
use Rattle.llrp_commands.specs.Calls.Epc.{AnswersEpc, DoesEpc}
use Rattle.llrp_commands.specs.Calls.Explain.{DoesExplain, form_of}
use Rattle.llrp_commands.specs.Calls.Fields.{AnswersFields, DoesFields}
use Rattle.llrp_commands.specs.Calls.Labelled.{AnswersLabels, EncodesLabelled, IsSchemes, asks_labels}
use Rattle.llrp_commands.specs.Calls.ShowNames.{AnswersMistake, names_word}

-- The arguments mean one thing together, and this was done; or they mean nothing together, and it was said what is wrong with them: nothing was read or written.
abbrev pub AsMeant : {A : Type 0} → (Means Did : A → Type 0) → SourceLog → SourceLog → SinkLog → SinkLog → SinkLog → SinkLog → Result ℕ ToolErr → Type 0
AsMeant {A} Means Did r0 r1 w0 w1 e0 e1 answer =
    ((meant : A) × Means meant × Did meant) ⊎ (((meant : A) → Means meant → ⊥) × (r1 ≡ r0) × (w1 ≡ w0) × AnswersMistake e0 e1 answer)

-- ---- show

-- what show writes: a listing, a listing with labels, lines of JSON under these names, or what is listed of the segments of a capture of a reader at this port
pub data Lines : Type 0 where
  listing : Lines
  labelled : Labels → Lines
  objects : Names → Lines
  captured : ℕ → Lines

-- the names that the word of --names asks for; the kinds' own ones without it
abbrev pub IsNames : Option Text → Names → Type 0
IsNames None names = names ≡ Own
IsNames (Some word) names = word ≡ names_word names

-- the port that a word spells, from 1 to 65,535
pub record IsPort (word : Text) (port : ℕ) : Type 0 where
  pub numeral : IsNumeral 10 (without_leading_plus word)
  pub value : port ≡ digits_value 10 (without_leading_plus word)
  pub least : 1 ≤ port
  pub most : port < 65536

-- the port that the word of --port spells; LLRP's own without it
abbrev pub IsReaderPort : Option Text → ℕ → Type 0
IsReaderPort None port = port ≡ 5084
IsReaderPort (Some word) port = IsPort word port

-- the arguments of show mean these lines
abbrev pub MeansLines : Show → Lines → Type 0
MeansLines s listing = (asks_labels s.keys s.schemes ≡ false) × (asks_segments s.segments s.port ≡ false) × (s.names ≡ None) × (s.json ≡ false)
MeansLines s (labelled labels) = (asks_labels s.keys s.schemes ≡ true) × (labels.keys ≡ s.keys) × IsSchemes s.schemes labels.schemes × (asks_segments s.segments s.port ≡ false) × (s.names ≡ None) × (s.json ≡ false)
MeansLines s (objects names) = (asks_labels s.keys s.schemes ≡ false) × (asks_segments s.segments s.port ≡ false) × IsNames s.names names × (s.json ≡ true)
MeansLines s (captured port) = (asks_labels s.keys s.schemes ≡ false) × (s.segments ≡ true) × IsReaderPort s.port port × (s.names ≡ None) × (s.hex ≡ false)

-- show wrote these lines, or a front of them, and ended so; what it does with a capture is not said here
abbrev pub ShowsTo : Show → Lines → SourceLog → SourceLog → SinkLog → SinkLog → SinkLog → SinkLog → Result ℕ ToolErr → Type 0
ShowsTo s listing r0 r1 w0 w1 e0 e1 answer = (outcome : Result Verdict ToolErr) × DoesShow None s.hex (set_of s.all) s.limit r0 r1 w0 w1 outcome × Answers (verdict_status outcome) e0 e1 answer
ShowsTo s (labelled labels) r0 r1 w0 w1 e0 e1 answer = (outcome : Result Verdict ToolErr) × ShowsLabelled labels s.hex (set_of s.all) s.limit r0 r1 w0 w1 outcome × Answers (verdict_status outcome) e0 e1 answer
ShowsTo s (objects names) r0 r1 w0 w1 e0 e1 answer = (outcome : Result Verdict ToolErr) × DoesShow (Some names) s.hex (set_of s.all) s.limit r0 r1 w0 w1 outcome × Answers (verdict_status outcome) e0 e1 answer
ShowsTo s (captured port) r0 r1 w0 w1 e0 e1 answer = Unit {0}

abbrev pub RunsShow : Show → SourceLog → SourceLog → SinkLog → SinkLog → SinkLog → SinkLog → Result ℕ ToolErr → Type 0
RunsShow s r0 r1 w0 w1 e0 e1 answer = AsMeant (MeansLines s) (λ lines. ShowsTo s lines r0 r1 w0 w1 e0 e1 answer) r0 r1 w0 w1 e0 e1 answer

-- ---- encode

-- what encode reads: a listing, a listing with labels, or lines of JSON
pub data Texts : Type 0 where
  plain_text : Texts
  labelled_text : Labels → Texts
  json_text : Texts

-- the arguments of encode mean these texts
abbrev pub MeansTexts : Encode → Texts → Type 0
MeansTexts s plain_text = (asks_labels s.keys s.schemes ≡ false) × (s.json ≡ false)
MeansTexts s (labelled_text labels) = (asks_labels s.keys s.schemes ≡ true) × (labels.keys ≡ s.keys) × IsSchemes s.schemes labels.schemes × (s.json ≡ false)
MeansTexts s json_text = (asks_labels s.keys s.schemes ≡ false) × (s.json ≡ true)

-- encode wrote their messages, or a front of them, and ended so
abbrev pub EncodesTo : Encode → Texts → SourceLog → SourceLog → SinkLog → SinkLog → SinkLog → SinkLog → Result ℕ ToolErr → Type 0
EncodesTo s plain_text r0 r1 w0 w1 e0 e1 answer = EncodedTo false s.hex (set_of s.all) s.limit r0 r1 w0 w1 e0 e1 answer
EncodesTo s (labelled_text labels) r0 r1 w0 w1 e0 e1 answer = (outcome : Result (Unit {0}) LabelErr) × EncodesLabelled labels s.hex (set_of s.all) s.limit r0 r1 w0 w1 outcome × AnswersLabels outcome e0 e1 answer
EncodesTo s json_text r0 r1 w0 w1 e0 e1 answer = EncodedTo true s.hex (set_of s.all) s.limit r0 r1 w0 w1 e0 e1 answer

abbrev pub RunsEncode : Encode → SourceLog → SourceLog → SinkLog → SinkLog → SinkLog → SinkLog → Result ℕ ToolErr → Type 0
RunsEncode s r0 r1 w0 w1 e0 e1 answer = AsMeant (MeansTexts s) (λ texts. EncodesTo s texts r0 r1 w0 w1 e0 e1 answer) r0 r1 w0 w1 e0 e1 answer

-- ---- epc, fields and explain

-- it is left to the program: nothing was read or written
abbrev pub IsLeft : SourceLog → SourceLog → SinkLog → SinkLog → SinkLog → SinkLog → Result ℕ ToolErr → Type 0
IsLeft r0 r1 w0 w1 e0 e1 answer = (answer ≡ Ok 2) × (r1 ≡ r0) × (w1 ≡ w0) × (e1 ≡ e0)

-- epc without a file of company prefixes; one with a file is left to the program
abbrev pub EpcBy : Option Text → Epc → SourceLog → SourceLog → SinkLog → SinkLog → SinkLog → SinkLog → Result ℕ ToolErr → Type 0
EpcBy None s r0 r1 w0 w1 e0 e1 answer =
    (outcome : Result (Option Verdict) ToolErr) × DoesEpc s.text s.forms s.list s.json s.to s.schemes (Digits s.count) s.filter r0 r1 w0 w1 outcome × AnswersEpc outcome e0 e1 answer
EpcBy (Some file) s r0 r1 w0 w1 e0 e1 answer = IsLeft r0 r1 w0 w1 e0 e1 answer

abbrev pub RunsEpc : Epc → SourceLog → SourceLog → SinkLog → SinkLog → SinkLog → SinkLog → Result ℕ ToolErr → Type 0
RunsEpc s r0 r1 w0 w1 e0 e1 answer = EpcBy s.file s r0 r1 w0 w1 e0 e1 answer

-- fields reads nothing
abbrev pub RunsFields : Fields → SourceLog → SourceLog → SinkLog → SinkLog → SinkLog → SinkLog → Result ℕ ToolErr → Type 0
RunsFields s r0 r1 w0 w1 e0 e1 answer =
    (outcome : Result Bool ToolErr) × (r1 ≡ r0) × DoesFields (set_of s.all) s.name w0 w1 outcome × AnswersFields (set_of s.all) (unwrap_or s.name []) outcome e0 e1 answer

abbrev pub RunsExplain : Explain → SourceLog → SourceLog → SinkLog → SinkLog → SinkLog → SinkLog → Result ℕ ToolErr → Type 0
RunsExplain s r0 r1 w0 w1 e0 e1 answer =
    (outcome : Result Verdict ToolErr) × DoesExplain (form_of s.json) s.only s.hex (set_of s.all) s.limit r0 r1 w0 w1 outcome × Answers (verdict_status outcome) e0 e1 answer

-- ---- help, and words that name no command

-- a text, the help or the version, went to standard output
abbrev pub SaysHelp : SinkLog → SinkLog → SinkLog → SinkLog → Result ℕ ToolErr → Type 0
SaysHelp w0 w1 e0 e1 answer = (text : Text) × (outcome : Result (Unit {0}) ToolErr) × Writes text w0 w1 outcome × Answers (fine_status outcome) e0 e1 answer

-- Nothing was read. A help was written to standard output; or what is wrong with the words went to standard error, and nothing to standard output.
abbrev pub SaysText : SourceLog → SourceLog → SinkLog → SinkLog → SinkLog → SinkLog → Result ℕ ToolErr → Type 0
SaysText r0 r1 w0 w1 e0 e1 answer = (r1 ≡ r0) × (SaysHelp w0 w1 e0 e1 answer ⊎ ((w1 ≡ w0) × AnswersMistake e0 e1 answer))

-- ---- all of them

-- What was done for what was asked, and how it ended.
abbrev pub Does : Asked → SourceLog → SourceLog → SinkLog → SinkLog → SinkLog → SinkLog → Result ℕ ToolErr → Type 0
Does (show s) r0 r1 w0 w1 e0 e1 answer = RunsShow s r0 r1 w0 w1 e0 e1 answer
Does (encode s) r0 r1 w0 w1 e0 e1 answer = RunsEncode s r0 r1 w0 w1 e0 e1 answer
Does (epc s) r0 r1 w0 w1 e0 e1 answer = RunsEpc s r0 r1 w0 w1 e0 e1 answer
Does (fields s) r0 r1 w0 w1 e0 e1 answer = RunsFields s r0 r1 w0 w1 e0 e1 answer
Does (explain s) r0 r1 w0 w1 e0 e1 answer = RunsExplain s r0 r1 w0 w1 e0 e1 answer
Does elsewhere r0 r1 w0 w1 e0 e1 answer = IsLeft r0 r1 w0 w1 e0 e1 answer
Does nothing r0 r1 w0 w1 e0 e1 answer = SaysText r0 r1 w0 w1 e0 e1 answer

-- The program did what the words ask for, or memory ran out before it began.
abbrev pub Runs : List Text → SourceLog → SourceLog → SinkLog → SinkLog → SinkLog → SinkLog → Result ℕ ToolErr → Type 0
Runs words r0 r1 w0 w1 e0 e1 answer = IsNotBegun r0 r1 w0 w1 e0 e1 answer ⊎ Does (asked words) r0 r1 w0 w1 e0 e1 answer
