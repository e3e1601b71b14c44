-- What `encode --json` writes for a text: the frame of the message that each line says, up to the first line that is refused.
use Rattle.std.specs.Prelude.{◌≡◌, ◌⊎◌, ◌+◌, ◌*◌, ◌<◌, ◌≤◌, ℕ, List, ◌∷◌, ◌++◌, length, Result, Ok, Err}
use Rattle.std.specs.List.{AllZip, flat_map}
use Rattle.llrp_schema.specs.declared.kinds.KindSet.{KindSet}
use Rattle.llrp_tree.specs.Frame.{Frame}
use Rattle.llrp_tree.specs.Tree.{MessageTree}
use Rattle.llrp_stream.specs.Device.{SourceLog, SinkLog, Gave, Wrote, WroteAndFailed}
use Rattle.llrp_listing.specs.declared.devices.TheConstants.{MOST_READS}
use Rattle.llrp_listing.specs.declared.outcome.ToolErr.TheVariants.{Read, Write, Bound, Memory}
use Rattle.llrp_listing.specs.Copying.{GaveAndFailed, IsPrefix, ReadAll}
use Rattle.llrp_listing.specs.Encoding.{WasRead}
use Rattle.llrp_listing.specs.Lines.{TextLine, Ended, Unended, NoLf, lines_of}
use Rattle.llrp_json_read.specs.declared.refusal.Reason.TheVariants as reason
use Rattle.llrp_json_read.specs.declared.run.LinesErr.{LinesErr}
use Rattle.llrp_json_read.specs.declared.run.LinesErr.TheVariants.{Line, Stopped}
use Rattle.llrp_json_read.specs.declared.refusal.RefusedLine.{RefusedLine}
use Rattle.llrp_json_read.specs.JsonLine.{RefusesLineWithin, SaysLine}
use Rattle.llrp_json_read.specs.ObjectRefused.{Refused, whole}
use Rattle.llrp_json_read.specs.Path.{path_text}

-- the octets of a line without its LF; the last line of a text may have none
abbrev pub octets_of : TextLine → List ℕ
octets_of (Ended octets) = octets
octets_of (Unended octets) = octets

-- the most octets that a line may have where a message may have this many
abbrev pub longest : ℕ → ℕ
longest limit = 64 * limit

-- The line is short enough, and says the message with this frame.
pub record SpellsLine (p : KindSet) (limit : ℕ) (line : TextLine) (frame : List ℕ) : Type 0 where
  pub message : MessageTree
  pub short : length (octets_of line) ≤ longest limit
  pub says : SaysLine p (octets_of line) message
  pub is : Frame message frame limit

-- The bytes are the frames of the messages of these lines, in order.
pub record AreLineFrames (p : KindSet) (limit : ℕ) (lines : List TextLine) (bytes : List ℕ) : Type 0 where
  pub frames : List (List ℕ)
  pub each : AllZip (SpellsLine p limit) lines frames
  pub bytes_are : bytes ≡ flat_map (λ frame. frame) frames

-- the line is too long, or it is refused for what it says
abbrev pub RefusesOctets : KindSet → ℕ → List ℕ → Refused → Type 0
RefusesOctets p limit octets r = ((longest limit < length octets) × (r ≡ whole reason.Line)) ⊎ ((length octets ≤ longest limit) × RefusesLineWithin p limit octets r)

-- The text's first line that is refused has this number, counted from 1, and the bytes are the frames of the messages of the lines before it.
pub record RefusesText (p : KindSet) (limit : ℕ) (text : List ℕ) (number : ℕ) (r : Refused) (bytes : List ℕ) : Type 0 where
  pub before : List TextLine
  pub line : TextLine
  pub after : List TextLine
  pub lines_are : lines_of text ≡ before ++ (line ∷ after)
  pub counted : number ≡ length before + 1
  pub accepted : AreLineFrames p limit before bytes
  pub refuses : RefusesOctets p limit (octets_of line) r

-- The bytes are the frames of the messages of all lines that end in a front of a text, whatever follows; a line may have begun after them.
pub record EncodesEnded (p : KindSet) (limit : ℕ) (front bytes : List ℕ) : Type 0 where
  pub lines : List TextLine
  pub begun : List ℕ
  pub unended : NoLf begun
  pub cuts : (more : List ℕ) → lines_of (front ++ more) ≡ lines ++ lines_of (begun ++ more)
  pub frames : AreLineFrames p limit lines bytes

-- a line was refused: the whole text was read, or a front of it that settles the refusal
abbrev pub RefusedIn : KindSet → ℕ → SourceLog → SourceLog → ℕ → Refused → List ℕ → Type 0
RefusedIn p limit r0 r1 number r bytes =
    ((text : List ℕ) × ReadAll r0 r1 text × RefusesText p limit text number r bytes)
    ⊎ ((n : ℕ) × (front : List ℕ) × Gave r0 r1 n front × ((more : List ℕ) → RefusesText p limit (front ++ more) number r bytes))

-- the bytes begin the frames of the lines that end in a front of what was read, or of all lines of the text, all of which was read
abbrev pub BeginsFrames : KindSet → ℕ → SourceLog → SourceLog → List ℕ → Type 0
BeginsFrames p limit r0 r1 bytes =
    ((front more frames : List ℕ) × WasRead r0 r1 (front ++ more) × EncodesEnded p limit front frames × IsPrefix bytes frames)
    ⊎ ((text frames : List ℕ) × ReadAll r0 r1 text × AreLineFrames p limit (lines_of text) frames × IsPrefix bytes frames)

-- the path and the reason are those of a refusal
pub record IsToldOf (r : Refused) (line : RefusedLine) : Type 0 where
  pub path : line.path.items ≡ path_text r
  pub reason : line.reason ≡ r.reason

-- What the command did, by its answer: what it had read, and what it had written.
abbrev pub EncodesLines : KindSet → ℕ → SourceLog → SourceLog → SinkLog → SinkLog → Result (Unit {0}) LinesErr → Type 0
EncodesLines p limit r0 r1 w0 w1 (Ok u) = (text bytes : List ℕ) × ReadAll r0 r1 text × AreLineFrames p limit (lines_of text) bytes × Wrote w0 w1 bytes
EncodesLines p limit r0 r1 w0 w1 (Err (Line line)) = (r : Refused) × (bytes : List ℕ) × IsToldOf r line × RefusedIn p limit r0 r1 line.number r bytes × Wrote w0 w1 bytes
EncodesLines p limit r0 r1 w0 w1 (Err (Stopped Read)) = (n : ℕ) × (front bytes : List ℕ) × GaveAndFailed r0 r1 n front × EncodesEnded p limit front bytes × Wrote w0 w1 bytes
EncodesLines p limit r0 r1 w0 w1 (Err (Stopped Bound)) = (front bytes : List ℕ) × Gave r0 r1 MOST_READS front × EncodesEnded p limit front bytes × Wrote w0 w1 bytes
EncodesLines p limit r0 r1 w0 w1 (Err (Stopped Write)) = (bytes : List ℕ) × BeginsFrames p limit r0 r1 bytes × WroteAndFailed w0 w1 bytes
EncodesLines p limit r0 r1 w0 w1 (Err (Stopped Memory)) = (bytes : List ℕ) × BeginsFrames p limit r0 r1 bytes × Wrote w0 w1 bytes
EncodesLines p limit r0 r1 w0 w1 (Err (Stopped _)) = ⊥
