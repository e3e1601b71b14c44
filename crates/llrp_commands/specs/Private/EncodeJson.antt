-- Beside Calls/EncodeJson: words of private functions.
use Rattle.std.specs.Prelude.{ℕ, List, Result, Ok, Err}
use Rattle.llrp_schema.specs.declared.kinds.KindSet.{KindSet}
use Rattle.llrp_listing.specs.Copying.{ReadAll}
use Rattle.llrp_listing.specs.Lines.{lines_of}
use Rattle.llrp_stream.specs.Device.{SourceLog}
use Rattle.llrp_json_read.specs.declared.run.LinesErr.{LinesErr}
use Rattle.llrp_json_read.specs.declared.run.LinesErr.TheVariants.{Line, Stopped}
use Rattle.llrp_json_read.specs.LinesRead.{AreLineFrames}
use Rattle.llrp_commands.specs.Calls.EncodeJson.{NotEncodedLines}
use Rattle.llrp_commands.specs.Private.Command.{memory_error}

-- the frames of all lines that were read, or why there are none
abbrev pub GathersLines : KindSet → ℕ → SourceLog → SourceLog → Result (List ℕ) LinesErr → Type 0
GathersLines p limit r0 r1 (Ok bytes) = (text : List ℕ) × ReadAll r0 r1 text × AreLineFrames p limit (lines_of text) bytes
GathersLines p limit r0 r1 (Err error) = NotEncodedLines p limit r0 r1 error

-- where memory takes what is written, a failed write is that of memory
abbrev pub memory_lines_error : LinesErr → LinesErr
memory_lines_error (Line line) = Line line
memory_lines_error (Stopped error) = Stopped (memory_error error)
