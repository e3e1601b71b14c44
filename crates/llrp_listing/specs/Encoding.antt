-- What encode writes for a listing.
use Rattle.std.specs.Prelude.{◌≡◌, ℕ, ◌⊎◌, List, ◌++◌}
use Rattle.std.specs.List.{flat_map, AllZip}
use Rattle.llrp_schema.specs.declared.kinds.KindSet.{KindSet}
use Rattle.llrp_schema.specs.declared.kinds.KindSet.TheVariants.{Profile}
use Rattle.llrp_tree.specs.Tree.{MessageTree}
use Rattle.llrp_listing.specs.declared.outcome.Refusal.{Refusal}
use Rattle.llrp_listing.specs.declared.outcome.ToolErr.{ToolErr}
use Rattle.llrp_listing.specs.declared.outcome.ToolErr.TheVariants.{Listing, Read, Write, Bound, Memory}
use Rattle.llrp_listing.specs.Copying.{ReadAll, GaveAndFailed, IsPrefix}
use Rattle.llrp_listing.specs.declared.devices.TheConstants.{MOST_READS}
use Rattle.llrp_stream.specs.Items.{FrameIn}
use Rattle.llrp_stream.specs.Device.{SourceLog, SinkLog, Gave, Wrote, WroteAndFailed}
use Rattle.llrp_listing.specs.FirstRefusal.{IsLastOpen, Opens, Refused}
use Rattle.llrp_listing.specs.Lines.{NoLf, TextLine, lines_of}
use Rattle.llrp_listing.specs.ListingRules.{rules_for, row}
use Rattle.llrp_listing.specs.MessageListing.{IsListingOf}
use Rattle.llrp_listing.specs.NodeLine.{NodeLine}
use Rattle.llrp_listing.specs.OpenText.{OpenText}

-- The bytes are the spellings of these lawful messages of a set of kinds in order, each within the limit.
pub record AreSpelled (p : KindSet) (limit : ℕ) (messages : List MessageTree) (bytes : List ℕ) : Type 0 where
  pub frames : List (List ℕ)
  pub each : AllZip (λ m frame. FrameIn p m frame limit) messages frames
  pub bytes_are : bytes ≡ flat_map (λ frame. frame) frames

-- The text is the listing of messages, and the bytes are their spellings.
pub record EncodesIn (p : KindSet) (limit : ℕ) (text bytes : List ℕ) : Type 0 where
  pub messages : List MessageTree
  pub listing : IsListingOf messages text
  pub spelled : AreSpelled p limit messages bytes

-- The text has this first refusal, and the bytes are the spellings of the messages closed before it.
pub record RefusesIn (p : KindSet) (limit : ℕ) (text : List ℕ) (line : ℕ) (reason : Refusal) (bytes : List ℕ) : Type 0 where
  pub messages : List MessageTree
  pub refused : Refused (rules_for p limit) (lines_of text) line reason (row messages)
  pub spelled : AreSpelled p limit messages bytes

-- these messages are closed in a text
abbrev pub AreClosed : KindSet → ℕ → List ℕ → List MessageTree → Type 0
AreClosed p limit text messages = (o : OpenText NodeLine) × (rest : List TextLine) × Opens (rules_for p limit) (lines_of text) o rest × (o.whole ≡ row messages)

-- The bytes begin the spellings of messages that are closed in each text that begins so.
pub record BeginsEncoding (p : KindSet) (limit : ℕ) (front bytes : List ℕ) : Type 0 where
  pub messages : List MessageTree
  pub spellings : List ℕ
  pub closed : (more : List ℕ) → AreClosed p limit (front ++ more) messages
  pub spelled : AreSpelled p limit messages spellings
  pub begins : IsPrefix bytes spellings

-- The bytes are the spellings of all messages that are closed in each text that begins so: an open text covers each line that has ended,
-- and its last line is open.
pub record EncodesClosed (p : KindSet) (limit : ℕ) (front bytes : List ℕ) : Type 0 where
  pub opened : OpenText NodeLine
  pub line : List ℕ
  pub unended : NoLf line
  pub opens : (more : List ℕ) → Opens (rules_for p limit) (lines_of (front ++ more)) opened (lines_of (line ++ more))
  pub last : IsLastOpen opened
  pub messages : List MessageTree
  pub whole : opened.whole ≡ row messages
  pub spelled : AreSpelled p limit messages bytes

-- what was read: the front that some reads gave, or the whole text
abbrev pub WasRead : SourceLog → SourceLog → List ℕ → Type 0
WasRead r0 r1 front = ((n : ℕ) × Gave r0 r1 n front) ⊎ ReadAll r0 r1 front

-- a listing was refused: the whole text was read, or a front of it that settles the refusal
abbrev pub ListingRefusedIn : KindSet → ℕ → SourceLog → SourceLog → ℕ → Refusal → List ℕ → Type 0
ListingRefusedIn p limit r0 r1 line reason bytes =
    ((text : List ℕ) × ReadAll r0 r1 text × RefusesIn p limit text line reason bytes)
    ⊎ ((n : ℕ) × (front : List ℕ) × Gave r0 r1 n front × ((more : List ℕ) → RefusesIn p limit (front ++ more) line reason bytes))

-- what had been written where a write failed: a front of what is settled, or of a whole encoding
abbrev pub WritingFailed : KindSet → ℕ → SourceLog → SourceLog → List ℕ → Type 0
WritingFailed p limit r0 r1 bytes =
    ((front : List ℕ) × WasRead r0 r1 front × BeginsEncoding p limit front bytes)
    ⊎ ((text spellings : List ℕ) × ReadAll r0 r1 text × EncodesIn p limit text spellings × IsPrefix bytes spellings)

-- Encode stopped with this error: what it had read, and what it had written.
abbrev pub EncodeStoppedIn : KindSet → ℕ → SourceLog → SourceLog → SinkLog → SinkLog → ToolErr → Type 0
EncodeStoppedIn p limit r0 r1 w0 w1 (Listing line reason) = (bytes : List ℕ) × Wrote w0 w1 bytes × ListingRefusedIn p limit r0 r1 line reason bytes
EncodeStoppedIn p limit r0 r1 w0 w1 Write = (bytes : List ℕ) × WroteAndFailed w0 w1 bytes × WritingFailed p limit r0 r1 bytes
EncodeStoppedIn p limit r0 r1 w0 w1 Read = (n : ℕ) × (front bytes : List ℕ) × GaveAndFailed r0 r1 n front × Wrote w0 w1 bytes × EncodesClosed p limit front bytes
EncodeStoppedIn p limit r0 r1 w0 w1 Bound = (front bytes : List ℕ) × Gave r0 r1 MOST_READS front × Wrote w0 w1 bytes × EncodesClosed p limit front bytes
EncodeStoppedIn p limit r0 r1 w0 w1 Memory = (front bytes : List ℕ) × WasRead r0 r1 front × Wrote w0 w1 bytes × BeginsEncoding p limit front bytes
EncodeStoppedIn p limit r0 r1 w0 w1 _ = ⊥

-- All was read until a read met the end, and the encoding of the text was written.
pub record EncodedIn (p : KindSet) (limit : ℕ) (r0 r1 : SourceLog) (w0 w1 : SinkLog) : Type 0 where
  pub text : List ℕ
  pub bytes : List ℕ
  pub read : ReadAll r0 r1 text
  pub encodes : EncodesIn p limit text bytes
  pub written : Wrote w0 w1 bytes

-- ---- the same of the profile

abbrev pub EncodeStopped : ℕ → SourceLog → SourceLog → SinkLog → SinkLog → ToolErr → Type 0
EncodeStopped limit r0 r1 w0 w1 error = EncodeStoppedIn Profile limit r0 r1 w0 w1 error

abbrev pub Encoded : ℕ → SourceLog → SourceLog → SinkLog → SinkLog → Type 0
Encoded limit r0 r1 w0 w1 = EncodedIn Profile limit r0 r1 w0 w1
