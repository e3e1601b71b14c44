-- What `llrp epc` with an option prints of one text. Texts are lists of their UTF-8 octets.
-- Source: EPC Tag Data Standard 1.13, sections 6, 7, 12 and 14, for the forms; the lines are this project's own.
use Rattle.std.specs.Prelude.{◌≡◌, ℕ, ◌^◌, ◌<◌, Bool, true, false, List, [], ◌∷◌, ◌++◌, Option, Result, Ok, Err}
use Rattle.tag_forms.specs.declared.company.Company.{Company}
use Rattle.tag_forms.specs.declared.fault.FormFault.{FormFault}
use Rattle.tag_forms.specs.declared.wanted.Wanted.{Wanted}
use Rattle.tag_forms.specs.Forms.{ReadsAs, form_at}
use Rattle.tag_forms.specs.Faults.{HasFaultIn}
use Rattle.tag_forms.specs.Company.{IsCount}
use Rattle.tag_forms.specs.Answers.{AreFormLines, refusal}
use Rattle.tag_forms.specs.Wanted.{IsWantedAnswer}
use Rattle.llrp_listing.specs.declared.outcome.ToolErr.{ToolErr}
use Rattle.llrp_listing.specs.declared.outcome.ToolErr.TheVariants.{Write, Memory}
use Rattle.llrp_listing.specs.declared.outcome.Verdict.{Verdict}
use Rattle.llrp_listing.specs.declared.outcome.Verdict.TheVariants.{Lawful, Faulty}
use Rattle.llrp_listing.specs.Copying.{IsPrefix}
use Rattle.llrp_stream.specs.Device.{SinkLog, Wrote, WroteAndFailed}

-- the verdict on a text that is refused, and on one that is not
abbrev pub verdict_of : Bool → Verdict
verdict_of true = Faulty
verdict_of false = Lawful

-- the lines of a text's forms: those of its word, or the first rule that refuses the text, each with a line feed (10)
abbrev pub AreFormsOf : ℕ → Company → List ℕ → Verdict → List ℕ → Type 0
AreFormsOf filter company text Lawful lines =
    (count : Option ℕ) × (word : ℕ) × IsCount company text count × (word < 2 ^ 96) × ReadsAs (form_at text) filter count text word × AreFormLines word lines
AreFormsOf filter company text Faulty lines = (count : Option ℕ) × (f : FormFault) × IsCount company text count × HasFaultIn (form_at text) filter count text f × (lines ≡ refusal f ++ 10 ∷ [])

-- the line that answers a text
abbrev pub AreAnswersOf : Wanted → ℕ → Company → List ℕ → Verdict → List ℕ → Type 0
AreAnswersOf to filter company text verdict lines =
    (count : Option ℕ) × (refused : Bool) × (answer : List ℕ) × IsCount company text count × IsWantedAnswer to filter count text refused answer × (verdict ≡ verdict_of refused) × (lines ≡ answer ++ 10 ∷ [])

-- What a command that prints such lines did, by its answer: it wrote them, or a front of them until a write failed, or nothing where memory ran out.
abbrev pub Prints : (Verdict → List ℕ → Type 0) → SinkLog → SinkLog → Result Verdict ToolErr → Type 0
Prints are w0 w1 (Ok verdict) = (lines : List ℕ) × are verdict lines × Wrote w0 w1 lines
Prints are w0 w1 (Err Write) = (verdict : Verdict) × (lines front : List ℕ) × are verdict lines × IsPrefix front lines × WroteAndFailed w0 w1 front
Prints are w0 w1 (Err Memory) = w1 ≡ w0
Prints are w0 w1 (Err _) = ⊥
