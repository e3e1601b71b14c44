-- What show reads and writes, whatever the texts of items and of ends are.
use Rattle.std.specs.Prelude.{◌≡◌, ℕ, ◌⊎◌, List, ◌++◌, Bool, true, false, Result, Ok, Err}
use Rattle.llrp_schema.specs.declared.kinds.KindSet.{KindSet}
use Rattle.llrp_schema.specs.declared.kinds.KindSet.TheVariants.{Profile}
use Rattle.llrp_stream.specs.declared.item.Item.{Item}
use Rattle.llrp_stream.specs.declared.item.End.{End}
use Rattle.llrp_stream.specs.Device.{SourceLog, SinkLog, Gave, Wrote, WroteAndFailed}
use Rattle.llrp_stream.specs.Cuts.{IsPartial}
use Rattle.llrp_stream.specs.Items.{ItemsIn, ItemsSoFarIn}
use Rattle.llrp_listing.specs.declared.outcome.ToolErr.{ToolErr}
use Rattle.llrp_listing.specs.declared.outcome.ToolErr.TheVariants.{Read, Write, Bound, Memory}
use Rattle.llrp_listing.specs.declared.outcome.Verdict.{Verdict}
use Rattle.llrp_listing.specs.declared.outcome.Verdict.TheVariants.{Lawful, Faulty}
use Rattle.llrp_listing.specs.Copying.{ReadAll, GaveAndFailed, IsPrefix}
use Rattle.llrp_listing.specs.declared.devices.TheConstants.{MOST_READS}
use Rattle.llrp_listing.specs.Encoding.{WasRead}
use Rattle.llrp_listing.specs.StreamListing.{AreTexts, IsItemText, IsStreamText, end_text, is_lawful}

-- the verdict on a stream that is lawful, or isn't
abbrev pub verdict_of : Bool → Verdict
verdict_of true = Lawful
verdict_of false = Faulty

-- The text of the bytes was written, and the verdict is theirs.
pub record ListedAs (IsText : Item → List ℕ → Type 0) (text_of_end : End → List ℕ) (p : KindSet) (limit : ℕ) (bytes : List ℕ) (old new : SinkLog) (verdict : Verdict) : Type 0 where
  pub items : List Item
  pub end : End
  pub text : List ℕ
  pub are : ItemsIn p limit bytes items end
  pub is : IsStreamText IsText text_of_end items end text
  pub written : Wrote old new text
  pub verdict_is : verdict ≡ verdict_of (is_lawful items end)

-- each text of the bytes begins with this one
abbrev pub BeginsTextIn : (IsText : Item → List ℕ → Type 0) (text_of_end : End → List ℕ) → KindSet → ℕ → List ℕ → List ℕ → Type 0
BeginsTextIn IsText text_of_end p limit bytes front = (items : List Item) (end : End) (text : List ℕ) → ItemsIn p limit bytes items end → IsStreamText IsText text_of_end items end text → IsPrefix front text

-- Listing stopped with this error, after this text.
abbrev pub ListStopped : SinkLog → SinkLog → List ℕ → ToolErr → Type 0
ListStopped old new front Write = WroteAndFailed old new front
ListStopped old new front Memory = Wrote old new front
ListStopped old new front _ = ⊥

-- A front of the text of the bytes was written.
pub record StoppedAs (IsText : Item → List ℕ → Type 0) (text_of_end : End → List ℕ) (p : KindSet) (limit : ℕ) (bytes : List ℕ) (old new : SinkLog) (error : ToolErr) : Type 0 where
  pub front : List ℕ
  pub begins : BeginsTextIn IsText text_of_end p limit bytes front
  pub log : ListStopped old new front error

-- The text of each frame that is whole in the bytes was written, which begins their text.
pub record WroteFramesAs (IsText : Item → List ℕ → Type 0) (text_of_end : End → List ℕ) (p : KindSet) (limit : ℕ) (bytes : List ℕ) (old new : SinkLog) : Type 0 where
  pub items : List Item
  pub front : List ℕ
  pub text : List ℕ
  pub are : ItemsSoFarIn p limit bytes items front
  pub unfinished : IsPartial front
  pub lines : AreTexts IsText items text
  pub written : Wrote old new text
  pub begins : BeginsTextIn IsText text_of_end p limit bytes text

-- Show stopped with this error: what it had read, and what it had written.
abbrev pub ShowStoppedAs : (IsText : Item → List ℕ → Type 0) (text_of_end : End → List ℕ) → KindSet → ℕ → SourceLog → SourceLog → SinkLog → SinkLog → ToolErr → Type 0
ShowStoppedAs IsText text_of_end p limit r0 r1 w0 w1 Read = (n : ℕ) × (bytes : List ℕ) × GaveAndFailed r0 r1 n bytes × WroteFramesAs IsText text_of_end p limit bytes w0 w1
ShowStoppedAs IsText text_of_end p limit r0 r1 w0 w1 Bound = (bytes : List ℕ) × Gave r0 r1 MOST_READS bytes × WroteFramesAs IsText text_of_end p limit bytes w0 w1
ShowStoppedAs IsText text_of_end p limit r0 r1 w0 w1 Write = (bytes : List ℕ) × WasRead r0 r1 bytes × StoppedAs IsText text_of_end p limit bytes w0 w1 Write
ShowStoppedAs IsText text_of_end p limit r0 r1 w0 w1 Memory = (bytes : List ℕ) × WasRead r0 r1 bytes × StoppedAs IsText text_of_end p limit bytes w0 w1 Memory
ShowStoppedAs IsText text_of_end p limit r0 r1 w0 w1 _ = ⊥

-- all was read, or a front in which the stream breaks: whatever follows, the text is the same
abbrev pub ReadEnoughAs : (IsText : Item → List ℕ → Type 0) (text_of_end : End → List ℕ) → KindSet → ℕ → SourceLog → SourceLog → SinkLog → SinkLog → Verdict → Type 0
ReadEnoughAs IsText text_of_end p limit r0 r1 w0 w1 verdict =
    ((bytes : List ℕ) × ReadAll r0 r1 bytes × ListedAs IsText text_of_end p limit bytes w0 w1 verdict)
    ⊎ ((n : ℕ) × (bytes : List ℕ) × Gave r0 r1 n bytes × ((more : List ℕ) → ListedAs IsText text_of_end p limit (bytes ++ more) w0 w1 verdict))

-- What show did between these logs, by its answer.
abbrev pub ShowsAs : (IsText : Item → List ℕ → Type 0) (text_of_end : End → List ℕ) → KindSet → ℕ → SourceLog → SourceLog → SinkLog → SinkLog → Result Verdict ToolErr → Type 0
ShowsAs IsText text_of_end p limit r0 r1 w0 w1 (Ok verdict) = ReadEnoughAs IsText text_of_end p limit r0 r1 w0 w1 verdict
ShowsAs IsText text_of_end p limit r0 r1 w0 w1 (Err error) = ShowStoppedAs IsText text_of_end p limit r0 r1 w0 w1 error

-- ---- the same of listings

abbrev pub ShowsIn : KindSet → ℕ → SourceLog → SourceLog → SinkLog → SinkLog → Result Verdict ToolErr → Type 0
ShowsIn p limit r0 r1 w0 w1 answer = ShowsAs IsItemText end_text p limit r0 r1 w0 w1 answer

abbrev pub Shows : ℕ → SourceLog → SourceLog → SinkLog → SinkLog → Result Verdict ToolErr → Type 0
Shows limit r0 r1 w0 w1 answer = ShowsIn Profile limit r0 r1 w0 w1 answer
