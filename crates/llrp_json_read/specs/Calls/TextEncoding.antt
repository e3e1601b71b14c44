-- Encoding lines of JSON that are in memory.
use Rattle.std.specs.Prelude.{◌≡◌, ℕ, List, ◌++◌, Result, Ok, Err}
use Rattle.llrp_schema.specs.declared.kinds.KindSet.{KindSet}
use Rattle.llrp_listing.specs.Lines.{lines_of}
use Rattle.llrp_listing.specs.declared.outcome.ToolErr.TheVariants.{Memory}
use Rattle.llrp_json_read.specs.declared.run.LinesErr.{LinesErr}
use Rattle.llrp_json_read.specs.declared.run.LinesErr.TheVariants.{Line, Stopped}
use Rattle.llrp_json_read.specs.LinesRead.{AreLineFrames, EncodesEnded, IsToldOf, RefusesText}
use Rattle.llrp_json_read.specs.ObjectRefused.{Refused}

-- the frames of all lines of the text were appended, or of those before the first that is refused, or, where memory ran out, of some first ones
abbrev pub AppendsFrames : KindSet → ℕ → (text old new : List ℕ) → Result (Unit {0}) LinesErr → Type 0
AppendsFrames p limit text old new (Ok u) = (bytes : List ℕ) × AreLineFrames p limit (lines_of text) bytes × (new ≡ old ++ bytes)
AppendsFrames p limit text old new (Err (Line line)) = (r : Refused) × (bytes : List ℕ) × IsToldOf r line × RefusesText p limit text line.number r bytes × (new ≡ old ++ bytes)
AppendsFrames p limit text old new (Err (Stopped Memory)) = (front back bytes : List ℕ) × (text ≡ front ++ back) × EncodesEnded p limit front bytes × (new ≡ old ++ bytes)
AppendsFrames p limit text old new (Err (Stopped _)) = ⊥
