-- The state of an encoder after a front of a text, and how it stops.
use Rattle.std.specs.Prelude.{◌≡◌, ℕ, ◌≤◌, ◌⊎◌, List, ◌++◌, length}
use Rattle.std.specs.List.{AllZip, flat_map}
use Rattle.llrp_schema.specs.declared.kinds.KindSet.{KindSet}
use Rattle.llrp_tree.specs.Tree.{MessageTree}
use Rattle.llrp_tree.specs.Frame.{Frame}
use Rattle.llrp_listing.specs.declared.parse_line.LineErr.{LineErr}
use Rattle.llrp_listing.specs.declared.parse_line.LineErr.TheVariants as unread
use Rattle.llrp_listing.specs.declared.outcome.Refusal.{Refusal}
use Rattle.llrp_listing.specs.declared.outcome.ToolErr.{ToolErr}
use Rattle.llrp_listing.specs.declared.outcome.ToolErr.TheVariants.{Listing, Write, Memory}
use Rattle.llrp_listing.specs.Copying.{IsPrefix}
pub use Rattle.llrp_listing.specs.Calls.MemoryListing.{StoppedAtEnd, WroteEncoding}
use Rattle.llrp_stream.specs.Device.{SinkLog, Wrote, WroteAndFailed}
use Rattle.llrp_listing.specs.Encoding.{AreSpelled, BeginsEncoding, EncodesIn, RefusesIn}
use Rattle.llrp_listing.specs.FirstRefusal.{IsLastOpen}
use Rattle.llrp_listing.specs.LineChecks.{SaysLine, SaysNode}
use Rattle.llrp_listing.specs.Lines.{TextLine, lines_of, NoLf}
use Rattle.llrp_listing.specs.ListingRules.{row}
use Rattle.llrp_listing.specs.NodeLine.{NodeLine}
use Rattle.llrp_listing.specs.Private.OpenLines.{Entry, open_of, AreNumbered, IsSound, Begins, AllClosed}
use Rattle.llrp_listing.specs.OpenText.{lines_covered}

-- the bytes are a line at a level that this many open lines allow
abbrev pub SaysAt : KindSet → ℕ → List ℕ → ℕ → NodeLine → Type 0
SaysAt p depth bytes level line = SaysNode p bytes level line × (level ≤ depth)

-- The state of an encoder after a front of a text: these messages are closed, and their bytes were handed on or are gathered in out.
pub record StandsAt (p : KindSet) (limit : ℕ) (start now : SinkLog) (text : List ℕ) (entries : List Entry) (number : ℕ) (line out : List ℕ) : Type 0 where
  pub done : List MessageTree
  pub front : List TextLine
  pub cuts : (more : List ℕ) → lines_of (text ++ more) ≡ front ++ lines_of (line ++ more)
  pub no_lf : NoLf line
  pub says : AllZip (SaysLine p) front (lines_covered (open_of done entries))
  pub counted : number ≡ length front
  pub last : IsLastOpen (open_of done entries)
  pub sound : IsSound limit (open_of done entries)
  pub numbered : AreNumbered (row done) entries
  pub spellings : List ℕ
  pub spelled : AreSpelled p limit done spellings
  pub handed : List ℕ
  pub gathered : spellings ≡ handed ++ out
  pub log : Wrote start now handed

-- the encoder stopped after this front of a text
abbrev pub Stopped : KindSet → ℕ → SinkLog → SinkLog → List ℕ → ToolErr → Type 0
Stopped p limit w0 w1 front (Listing line reason) = (bytes : List ℕ) × Wrote w0 w1 bytes × ((more : List ℕ) → RefusesIn p limit (front ++ more) line reason bytes)
Stopped p limit w0 w1 front Write = (bytes : List ℕ) × WroteAndFailed w0 w1 bytes × BeginsEncoding p limit front bytes
Stopped p limit w0 w1 front Memory = (bytes : List ℕ) × Wrote w0 w1 bytes × BeginsEncoding p limit front bytes
Stopped p limit w0 w1 front _ = ⊥

-- this line is refused: all that was gathered was written, or a front of it
abbrev pub Refusing : ℕ → List ℕ → Refusal → SinkLog → SinkLog → ToolErr → Type 0
Refusing number out why w0 w1 (Listing line reason) = (line ≡ number) × (reason ≡ why) × Wrote w0 w1 out
Refusing number out why w0 w1 Write = (front : List ℕ) × IsPrefix front out × WroteAndFailed w0 w1 front
Refusing number out why w0 w1 _ = ⊥

-- what is returned where a line is not read
abbrev pub RefusingLine : LineErr → ℕ → List ℕ → SinkLog → SinkLog → ToolErr → Type 0
RefusingLine (unread.Refused reason) number out w0 w1 e = Refusing number out reason w0 w1 e
RefusingLine unread.Memory number out w0 w1 e = (e ≡ Memory) × (w1 ≡ w0)

-- The bytes are the spellings of these lawful messages in order, each within the limit, of whatever set they are.
pub record AreFramed (limit : ℕ) (messages : List MessageTree) (bytes : List ℕ) : Type 0 where
  pub frames : List (List ℕ)
  pub each : AllZip (λ m frame. Frame m frame limit) messages frames
  pub bytes_are : bytes ≡ flat_map (λ frame. frame) frames

-- messages' frames were appended
pub record Appended (limit : ℕ) (messages : List MessageTree) (old new : List ℕ) : Type 0 where
  pub bytes : List ℕ
  pub framed : AreFramed limit messages bytes
  pub more : new ≡ old ++ bytes

-- The next line is open, and the messages closed before it are appended.
pub record Opened (limit : ℕ) (old new : List Entry) (level : ℕ) (line : NodeLine) (number : ℕ) (out0 out1 : List ℕ) : Type 0 where
  pub messages : List MessageTree
  pub begins : Begins limit old new level line number messages
  pub appended : Appended limit messages out0 out1

-- All lines are closed, and the messages are appended.
pub record Finished (limit : ℕ) (old : List Entry) (out0 out1 : List ℕ) : Type 0 where
  pub messages : List MessageTree
  pub closed : AllClosed limit old messages
  pub appended : Appended limit messages out0 out1
