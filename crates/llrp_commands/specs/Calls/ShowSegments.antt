-- What show does with --segments.
use Rattle.std.specs.Prelude.{◌≡◌, ◌⊎◌, ◌≤◌, ◌<◌, ℕ, ◌&&◌, not, is_none, List, Bool, true, Option, Some, None, Result, Ok, codes}
use Rattle.clap.specs.Words.{Text}
use Rattle.llrp_schema.specs.declared.kinds.KindSet.{KindSet}
use Rattle.llrp_listing.specs.Copying.{ReadAll}
use Rattle.llrp_listing.specs.declared.outcome.ToolErr.{ToolErr}
use Rattle.llrp_listing.specs.declared.outcome.Verdict.{Verdict}
use Rattle.llrp_sides.specs.Calls.Captures.{ListsText}
use Rattle.llrp_sides.specs.declared.form.Form.{Form}
use Rattle.llrp_stream.specs.Device.{SourceLog, SinkLog, Wrote}
use Rattle.llrp_words.specs.Calls.Arguments.{Asks, AsksNoLabels, AsksSegments, asks_segments, command_in, word_in}
use Rattle.llrp_commands.specs.Calls.Command.{Answers, IsNotBegun, set_of, verdict_status}
use Rattle.llrp_commands.specs.Calls.ShowNames.{AnswersMistake}
use Rattle.llrp_words.specs.Calls.Asked.{Show, asked, show}
use Rattle.llrp_commands.specs.Calls.Does.{IsPort, MeansLines, captured}

-- the reader's port, which is LLRP's own without --port; where the words do not go together there is none
abbrev pub MeansPort : (plain : Bool) → (word : Option Text) → (port : ℕ) → Type 0
MeansPort plain None port = (plain ≡ true) × (port ≡ 5084)
MeansPort plain (Some word) port = (plain ≡ true) × IsPort word port

-- a form of a listing: whether it is lines of JSON, the set of kinds, and the most octets of a message
pub record IsForm (json : Bool) (p : KindSet) (limit : ℕ) (form : Form) : Type 0 where
  pub json_is : form.json ≡ json
  pub set_is : form.set ≡ p
  pub limit_is : form.limit ≡ limit

-- All of a capture was read, and what is listed of its segments in this form was written; the status is that of the verdict.
pub record ShowsCapture (json : Bool) (p : KindSet) (limit port : ℕ) (r0 r1 : SourceLog) (w0 w1 e0 e1 : SinkLog) (answer : Result ℕ ToolErr) : Type 0 where
  pub form : Form
  pub is_form : IsForm json p limit form
  pub bytes : List ℕ
  pub listing : List ℕ
  pub verdict : Verdict
  pub read : ReadAll r0 r1 bytes
  pub lists : ListsText form port bytes listing verdict
  pub wrote : Wrote w0 w1 listing
  pub answers : Answers (verdict_status (Ok verdict)) e0 e1 answer

-- Show with --segments was answered so: it listed a capture, or it stopped, and the status is not 0; or the words do not go together, and nothing was read
-- or written.
abbrev pub SegmentsTo : (plain json : Bool) → (word : Option Text) → KindSet → (limit : ℕ) → SourceLog → SourceLog → SinkLog → SinkLog → SinkLog → SinkLog → Result ℕ ToolErr → Type 0
SegmentsTo plain json word p limit r0 r1 w0 w1 e0 e1 answer =
    ((port : ℕ) × MeansPort plain word port × (ShowsCapture json p limit port r0 r1 w0 w1 e0 e1 answer ⊎ (answer ≡ Ok 0 → ⊥)))
    ⊎ (((port : ℕ) → MeansPort plain word port → ⊥) × (r1 ≡ r0) × (w1 ≡ w0) × AnswersMistake e0 e1 answer)

-- --segments is there, and neither --hex nor --names
abbrev pub is_plain : (segments hex : Bool) → (names : Option Text) → Bool
is_plain segments hex names = segments && (not hex && is_none names)

-- if the words ask for show with --segments or --port and without labels, it ran so, or memory ran out before it began
abbrev pub SegmentsIfAsked : List Text → SourceLog → SourceLog → SinkLog → SinkLog → SinkLog → SinkLog → Result ℕ ToolErr → Type 0
SegmentsIfAsked words r0 r1 w0 w1 e0 e1 answer =
    (hex all json segments : Bool) (limit : ℕ) (port : Option Text) → Asks words (codes "show") hex all json limit → AsksNoLabels words → AsksSegments words segments port → asks_segments segments port ≡ true
    → IsNotBegun r0 r1 w0 w1 e0 e1 answer
    ⊎ SegmentsTo (is_plain segments hex (word_in (codes "names") (command_in words))) json port (set_of all) limit r0 r1 w0 w1 e0 e1 answer

-- what show did with a capture, and how it ended: it listed it, or it stopped, and the status is not 0
abbrev pub CapturesTo : Show → ℕ → SourceLog → SourceLog → SinkLog → SinkLog → SinkLog → SinkLog → Result ℕ ToolErr → Type 0
CapturesTo s port r0 r1 w0 w1 e0 e1 answer = ShowsCapture s.json (set_of s.all) s.limit port r0 r1 w0 w1 e0 e1 answer ⊎ (answer ≡ Ok 0 → ⊥)

-- if the words ask show for a capture, it did so, or memory ran out before it began
abbrev pub CapturesIfAsked : List Text → SourceLog → SourceLog → SinkLog → SinkLog → SinkLog → SinkLog → Result ℕ ToolErr → Type 0
CapturesIfAsked words r0 r1 w0 w1 e0 e1 answer = (s : Show) (port : ℕ) → asked words ≡ show s → MeansLines s (captured port) → IsNotBegun r0 r1 w0 w1 e0 e1 answer ⊎ CapturesTo s port r0 r1 w0 w1 e0 e1 answer
