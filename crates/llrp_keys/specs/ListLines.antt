-- What `llrp epc --list` prints of a list of texts, a line each.
use Rattle.std.specs.Prelude.{◌≡◌, ℕ, ◌||◌, ◌⊎◌, Bool, List, [], ◌++◌, Result, Ok, Err}
use Rattle.tag_forms.specs.declared.company.Company.{Company}
use Rattle.tag_forms.specs.declared.wanted.Wanted.{Wanted}
use Rattle.tag_forms.specs.Lists.{Answers, IsEnded}
use Rattle.llrp_listing.specs.declared.outcome.ToolErr.{ToolErr}
use Rattle.llrp_listing.specs.declared.outcome.ToolErr.TheVariants.{Read, Write, Bound, Memory}
use Rattle.llrp_listing.specs.declared.outcome.Verdict.{Verdict}
use Rattle.llrp_listing.specs.Copying.{GaveAndFailed, IsPrefix, ReadAll}
use Rattle.llrp_listing.specs.Encoding.{WasRead}
use Rattle.llrp_listing.specs.declared.devices.TheConstants.{MOST_READS}
use Rattle.llrp_stream.specs.Device.{SourceLog, SinkLog, Gave, Wrote, WroteAndFailed}
use Rattle.llrp_keys.specs.TextLines.{verdict_of}

-- the answers to all lines of a list, and the verdict on it
abbrev pub AreListAnswers : Wanted → ℕ → Company → List ℕ → Verdict → List ℕ → Type 0
AreListAnswers to filter company text verdict lines =
    (begun : List ℕ) × (first second : Bool) × (ended last : List ℕ) × Answers to filter company [] text begun first ended × IsEnded to filter company begun second last
    × (verdict ≡ verdict_of (first || second)) × (lines ≡ ended ++ last)

-- the answers to the lines that end in some octets
abbrev pub AreEndedAnswers : Wanted → ℕ → Company → List ℕ → List ℕ → Type 0
AreEndedAnswers to filter company octets lines = (begun : List ℕ) × (refused : Bool) × Answers to filter company [] octets begun refused lines

-- the answers to the lines that end in a front of what was read, or to all lines of the list, all of which was read
abbrev pub AreFirstAnswers : Wanted → ℕ → Company → SourceLog → SourceLog → List ℕ → Type 0
AreFirstAnswers to filter company r0 r1 lines =
    ((front more : List ℕ) × WasRead r0 r1 (front ++ more) × AreEndedAnswers to filter company front lines)
    ⊎ ((text : List ℕ) × (verdict : Verdict) × ReadAll r0 r1 text × AreListAnswers to filter company text verdict lines)

-- What the command did, by its answer.
abbrev pub AnswersList : Wanted → ℕ → Company → SourceLog → SourceLog → SinkLog → SinkLog → Result Verdict ToolErr → Type 0
AnswersList to filter company r0 r1 w0 w1 (Ok verdict) = (text lines : List ℕ) × ReadAll r0 r1 text × AreListAnswers to filter company text verdict lines × Wrote w0 w1 lines
AnswersList to filter company r0 r1 w0 w1 (Err Read) = (n : ℕ) × (front lines : List ℕ) × GaveAndFailed r0 r1 n front × AreEndedAnswers to filter company front lines × Wrote w0 w1 lines
AnswersList to filter company r0 r1 w0 w1 (Err Bound) = (front lines : List ℕ) × Gave r0 r1 MOST_READS front × AreEndedAnswers to filter company front lines × Wrote w0 w1 lines
AnswersList to filter company r0 r1 w0 w1 (Err Write) = (lines front : List ℕ) × AreFirstAnswers to filter company r0 r1 lines × IsPrefix front lines × WroteAndFailed w0 w1 front
AnswersList to filter company r0 r1 w0 w1 (Err Memory) = (lines : List ℕ) × AreFirstAnswers to filter company r0 r1 lines × Wrote w0 w1 lines
AnswersList to filter company r0 r1 w0 w1 (Err _) = ⊥
