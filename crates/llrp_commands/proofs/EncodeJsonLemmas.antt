-- What encode with --json answers.
use Rattle.std.proofs.Common.{◌≡◌, ◌<◌, ℕ, List, [], ◌∷◌, ◌++◌, length, Result, Ok, Err, inl, inr, arith, codes}
use Rattle.llrp_schema.specs.declared.kinds.KindSet.{KindSet}
use Rattle.llrp_listing.specs.declared.outcome.ToolErr.TheVariants.{Listing, Script, Hex, Read, Write, Bound, Memory, Broken, Peer, Strange, Early}
use Rattle.llrp_listing.specs.declared.outcome.ToolErr.{ToolErr}
use Rattle.llrp_listing.specs.Calls.Copying.{Writes}
use Rattle.llrp_listing.specs.Encoding.{WasRead}
use Rattle.llrp_stream.proofs.WritingLemmas.{wrote_nothing}
use Rattle.llrp_stream.specs.Device.{SourceLog, SinkLog}
use Rattle.llrp_json_read.specs.declared.run.LinesErr.{LinesErr}
use Rattle.llrp_json_read.specs.declared.run.LinesErr.TheVariants.{Line, Stopped}
use Rattle.llrp_json_read.specs.LinesRead.{BeginsFrames, EncodesLines}
use Rattle.llrp_commands.specs.Calls.EncodeJson.{NotEncodedLines, place_text}
use Rattle.llrp_commands.specs.Private.EncodeJson.{memory_lines_error}

was_read : (p : KindSet) (limit : ℕ) (r0 r1 : SourceLog) (bytes : List ℕ) → BeginsFrames p limit r0 r1 bytes → (front : List ℕ) × WasRead r0 r1 front
was_read p limit r0 r1 bytes (inl (front, more, frames, read, ended, first)) = (front ++ more, read)
was_read p limit r0 r1 bytes (inr (text, frames, all, are, first)) = (text, inr all)

-- lines were not encoded over memory
pub lines_not_encoded : (p : KindSet) (limit : ℕ) (r0 r1 : SourceLog) (m0 m1 : SinkLog) (error : LinesErr) → EncodesLines p limit r0 r1 m0 m1 (Err error) → NotEncodedLines p limit r0 r1 (memory_lines_error error)
lines_not_encoded p limit r0 r1 m0 m1 (Line line) (r, bytes, told, refused, wrote) = (r, bytes, told, refused)
lines_not_encoded p limit r0 r1 m0 m1 (Stopped Read) (n, front, bytes, gave, ended, wrote) = (n, front, gave)
lines_not_encoded p limit r0 r1 m0 m1 (Stopped Bound) (front, bytes, gave, ended, wrote) = (front, gave)
lines_not_encoded p limit r0 r1 m0 m1 (Stopped Memory) (bytes, begins, wrote) = was_read p limit r0 r1 bytes begins
lines_not_encoded p limit r0 r1 m0 m1 (Stopped Write) (bytes, begins, failed) = was_read p limit r0 r1 bytes begins
lines_not_encoded p limit r0 r1 m0 m1 (Stopped (Listing line reason)) s = absurd s
lines_not_encoded p limit r0 r1 m0 m1 (Stopped (Script at)) s = absurd s
lines_not_encoded p limit r0 r1 m0 m1 (Stopped Hex) s = absurd s
lines_not_encoded p limit r0 r1 m0 m1 (Stopped Broken) s = absurd s
lines_not_encoded p limit r0 r1 m0 m1 (Stopped Early) s = absurd s
lines_not_encoded p limit r0 r1 m0 m1 (Stopped (Peer status)) s = absurd s
lines_not_encoded p limit r0 r1 m0 m1 (Stopped Strange) s = absurd s

-- no path is nothing
pub placed_nothing : (path : List ℕ) (log : SinkLog) → length path ≡ 0 → Writes (place_text path) log log (Ok tt)
placed_nothing [] log none = wrote_nothing log
placed_nothing (c ∷ path) log none = absurd (omega (arith, none))

-- some path has a colon after it
pub placed : (path : List ℕ) (old new : SinkLog) (r : Result (Unit {0}) ToolErr) → 0 < length path → Writes (path ++ codes ": ") old new r → Writes (place_text path) old new r
placed [] old new r some h = absurd (omega (arith, some))
placed (c ∷ path) old new r some h = h
