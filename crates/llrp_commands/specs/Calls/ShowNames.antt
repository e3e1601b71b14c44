-- What show does with --names.
use Rattle.std.specs.Prelude.{◌≡◌, ◌⊎◌, ℕ, List, Bool, true, false, Some, None, Result, Ok, Err, codes}
use Rattle.clap.specs.Words.{Text}
use Rattle.llrp_schema.specs.declared.kinds.KindSet.{KindSet}
use Rattle.llrp_listing.specs.declared.outcome.ToolErr.{ToolErr}
use Rattle.llrp_listing.specs.declared.outcome.ToolErr.TheVariants.{Write}
use Rattle.llrp_listing.specs.declared.outcome.Verdict.{Verdict}
use Rattle.llrp_stream.specs.Device.{SourceLog, SinkLog, Wrote, WroteAndFailed}
use Rattle.llrp_json.specs.declared.names.Names.{Names}
use Rattle.llrp_json.specs.declared.names.Names.TheVariants.{Own, Standard}
use Rattle.llrp_words.specs.Calls.Arguments.{Asks, AsksNoLabels, AsksNoSegments, command_in, word_in}
use Rattle.llrp_commands.specs.Calls.Command.{Answers, DoesShow, IsNotBegun, set_of, verdict_status}

-- the word that asks for these names
abbrev pub names_word : Names → Text
names_word Own = codes "profile"
names_word Standard = codes "standard"

-- show with --json, or without it, and with this word of --names asks for these names
abbrev pub AsksNames : Bool → Text → Names → Type 0
AsksNames json word names = (json ≡ true) × (word ≡ names_word names)

-- a text was written to the sink for errors, and the status is 2
abbrev pub AnswersMistake : SinkLog → SinkLog → Result ℕ ToolErr → Type 0
AnswersMistake e0 e1 (Ok status) = (status ≡ 2) × (text : List ℕ) × Wrote e0 e1 text
AnswersMistake e0 e1 (Err fault) = (fault ≡ Write) × (front : List ℕ) × WroteAndFailed e0 e1 front

-- show with --names was answered so: it showed lines under these names, or it asks for none, and nothing was read or written
abbrev pub NamedTo : Bool → Text → Bool → KindSet → ℕ → SourceLog → SourceLog → SinkLog → SinkLog → SinkLog → SinkLog → Result ℕ ToolErr → Type 0
NamedTo json word hex p limit r0 r1 w0 w1 e0 e1 answer =
    ((names : Names) × (outcome : Result Verdict ToolErr) × AsksNames json word names × DoesShow (Some names) hex p limit r0 r1 w0 w1 outcome × Answers (verdict_status outcome) e0 e1 answer)
    ⊎ (((names : Names) → AsksNames json word names → ⊥) × (r1 ≡ r0) × (w1 ≡ w0) × AnswersMistake e0 e1 answer)

-- the same, or memory ran out before it began
abbrev pub RanNamed : Bool → Text → Bool → KindSet → ℕ → SourceLog → SourceLog → SinkLog → SinkLog → SinkLog → SinkLog → Result ℕ ToolErr → Type 0
RanNamed json word hex p limit r0 r1 w0 w1 e0 e1 answer = IsNotBegun r0 r1 w0 w1 e0 e1 answer ⊎ NamedTo json word hex p limit r0 r1 w0 w1 e0 e1 answer

-- if the words ask for show with --names, no labels and no --segments, it ran so
abbrev pub NamesIfAsked : List Text → SourceLog → SourceLog → SinkLog → SinkLog → SinkLog → SinkLog → Result ℕ ToolErr → Type 0
NamesIfAsked words r0 r1 w0 w1 e0 e1 answer =
    (hex all json : Bool) (limit : ℕ) (word : Text) → Asks words (codes "show") hex all json limit → word_in (codes "names") (command_in words) ≡ Some word → AsksNoLabels words → AsksNoSegments words
    → RanNamed json word hex (set_of all) limit r0 r1 w0 w1 e0 e1 answer
