-- A listing with labels, line by line, and what is written of a stream.
use Rattle.std.specs.Prelude.{◌≡◌, ℕ, ◌+◌, List, [], ◌∷◌, ◌++◌, length, Result, Ok, Err}
use Rattle.std.specs.List.{AllZip, flat_map}
use Rattle.llrp_schema.specs.declared.kinds.KindSet.{KindSet}
use Rattle.llrp_stream.specs.declared.item.Item.{Item}
use Rattle.llrp_stream.specs.declared.item.End.{End}
use Rattle.llrp_stream.specs.Device.{SinkLog, Wrote, WroteAndFailed}
use Rattle.llrp_stream.specs.Items.{ItemsIn}
use Rattle.llrp_listing.specs.declared.outcome.ToolErr.{ToolErr}
use Rattle.llrp_listing.specs.declared.outcome.ToolErr.TheVariants as tool
use Rattle.llrp_listing.specs.declared.outcome.Verdict.{Verdict}
use Rattle.llrp_listing.specs.Copying.{IsPrefix}
use Rattle.llrp_listing.specs.Lines.{TextLine, Ended, Unended, lines_of}
use Rattle.llrp_listing.specs.Show.{verdict_of}
use Rattle.llrp_listing.specs.StreamListing.{IsStreamListing, is_lawful}
use Rattle.llrp_labels.specs.declared.labels.Labels.{Labels}
use Rattle.llrp_labels.specs.declared.fault.LabelFault.{LabelFault}
use Rattle.llrp_labels.specs.declared.fault.PlainErr.{PlainErr}
use Rattle.llrp_labels.specs.declared.fault.PlainErr.TheVariants.{Line, Memory}
use Rattle.llrp_labels.specs.LabelledLines.{IsLabelled, ReadsLine, RefusesLine}

-- a line of a text is made into this one, and its LF (10) stays, if it has one
abbrev pub IsMade : (List ℕ → List ℕ → Type 0) → TextLine → List ℕ → Type 0
IsMade Makes (Ended line) out = (made : List ℕ) × Makes line made × (out ≡ made ++ 10 ∷ [])
IsMade Makes (Unended line) out = Makes line out

-- Each line of a text is made into a line, and these in order are the other text.
pub record MakesText (Makes : List ℕ → List ℕ → Type 0) (text out : List ℕ) : Type 0 where
  pub lines : List (List ℕ)
  pub each : AllZip (IsMade Makes) (lines_of text) lines
  pub joined : out ≡ flat_map (λ line. line) lines

-- the text with labels in its lines
abbrev pub IsLabelledText : Labels → List ℕ → List ℕ → Type 0
IsLabelledText labels text labelled = MakesText (IsLabelled labels) text labelled

-- the text without them
abbrev pub IsPlainText : Labels → List ℕ → List ℕ → Type 0
IsPlainText labels text plain = MakesText (ReadsLine labels) text plain

-- a line without its LF
abbrev pub octets_of : TextLine → List ℕ
octets_of (Ended line) = line
octets_of (Unended line) = line

-- The first line that is refused has this number, counted from 1: the lines before it are read.
pub record RefusesAt (labels : Labels) (text : List ℕ) (number : ℕ) (fault : LabelFault) : Type 0 where
  pub before : List TextLine
  pub line : TextLine
  pub after : List TextLine
  pub lines_are : lines_of text ≡ before ++ (line ∷ after)
  pub counted : number ≡ length before + 1
  pub made : List (List ℕ)
  pub read : AllZip (IsMade (ReadsLine labels)) before made
  pub refuses : RefusesLine labels (octets_of line) fault

-- why there is no text without labels; memory may run out at any line
abbrev pub Refuses : Labels → List ℕ → PlainErr → Type 0
Refuses labels text (Line number fault) = RefusesAt labels text number fault
Refuses labels text Memory = Unit {0}

-- The listing of a stream, and the verdict on it.
pub record IsListing (p : KindSet) (limit : ℕ) (stream listing : List ℕ) (verdict : Verdict) : Type 0 where
  pub items : List Item
  pub end : End
  pub are : ItemsIn p limit stream items end
  pub is : IsStreamListing items end listing
  pub verdict_is : verdict ≡ verdict_of (is_lawful items end)

-- What was written of a stream, by the answer: its listing with labels, or a front of that until a write failed, or nothing where memory ran out.
abbrev pub ListsLabelled : Labels → KindSet → ℕ → List ℕ → SinkLog → SinkLog → Result Verdict ToolErr → Type 0
ListsLabelled labels p limit stream w0 w1 (Ok verdict) = (listing labelled : List ℕ) × IsListing p limit stream listing verdict × IsLabelledText labels listing labelled × Wrote w0 w1 labelled
ListsLabelled labels p limit stream w0 w1 (Err tool.Write) =
    (verdict : Verdict) × (listing labelled front : List ℕ) × IsListing p limit stream listing verdict × IsLabelledText labels listing labelled × IsPrefix front labelled × WroteAndFailed w0 w1 front
ListsLabelled labels p limit stream w0 w1 (Err tool.Memory) = w1 ≡ w0
ListsLabelled labels p limit stream w0 w1 (Err _) = ⊥
