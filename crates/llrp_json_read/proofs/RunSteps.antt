-- How a run over lines of JSON ends.
use Rattle.std.proofs.Common.{◌∙◌, ℕ, List, [], ◌++◌, Err, refl, sym, ap, subst, inl, inr, append_assoc}
use Rattle.std.proofs.lemmas.List.{append-nil}
use Rattle.llrp_schema.specs.declared.kinds.KindSet.{KindSet}
use Rattle.llrp_listing.specs.declared.outcome.ToolErr.{ToolErr}
use Rattle.llrp_listing.specs.declared.outcome.ToolErr.TheVariants.{Listing, Script, Hex, Read, Write, Bound, Memory, Broken, Peer, Strange, Early}
use Rattle.llrp_listing.specs.Calls.Copying.{GivesNone, Writes}
use Rattle.llrp_listing.specs.Copying.{IsPrefix, ReadAll}
use Rattle.llrp_listing.specs.Encoding.{WasRead}
use Rattle.llrp_listing.specs.Lines.{lines_of}
use Rattle.llrp_stream.specs.Device.{SourceLog, SinkLog, Gave, Wrote}
use Rattle.llrp_stream.proofs.WritingLemmas.{wrote_more, wrote_then_failed}
use Rattle.llrp_json_read.specs.declared.run.LinesErr.{LinesErr}
use Rattle.llrp_json_read.specs.declared.run.LinesErr.TheVariants as lines
use Rattle.llrp_json_read.specs.declared.run.TakeErr.{TakeErr}
use Rattle.llrp_json_read.specs.declared.run.TakeErr.TheVariants as take
use Rattle.llrp_json_read.specs.LinesRead.{AreLineFrames, BeginsFrames, EncodesEnded, EncodesLines, IsToldOf, RefusedIn}
use Rattle.llrp_json_read.specs.ObjectRefused.{Refused}
use Rattle.llrp_json_read.specs.Private.Lines.{IsEnded, Refuses, StopsWithin, Withdraws}

-- no piece came
pub none_read : (p : KindSet) (limit : ℕ) (r0 r1 : SourceLog) (w0 w1 : SinkLog) (text bytes : List ℕ) (e : ToolErr) → GivesNone r0 r1 text e → EncodesEnded p limit text bytes → Wrote w0 w1 bytes → EncodesLines p limit r0 r1 w0 w1 (Err (lines.Stopped e))
none_read p limit r0 r1 w0 w1 text bytes e (inl none) ended wrote = rw none.0 (none.1, text, bytes, none.2, ended, wrote)
none_read p limit r0 r1 w0 w1 text bytes e (inr none) ended wrote = rw none.0 (text, bytes, none.1, ended, wrote)

-- a part of the frames begins them, after others
longer : (done front more : List ℕ) → IsPrefix front more → IsPrefix (done ++ front) (done ++ more)
longer done front more (back, is) = (back, ap (λ (x : List ℕ). done ++ x) is ∙ sym (append_assoc done front back))

all_of : (bytes : List ℕ) → IsPrefix bytes bytes
all_of bytes = ([], sym (append-nil bytes))

first_of : (done more : List ℕ) → IsPrefix done (done ++ more)
first_of done more = (more, refl)

-- frames of a front of what was read
abbrev pub Begins : KindSet → ℕ → SourceLog → SourceLog → List ℕ → Type 0
Begins p limit r0 r1 frames = (bytes : List ℕ) → IsPrefix bytes frames → BeginsFrames p limit r0 r1 bytes

pub begins_within : (p : KindSet) (limit : ℕ) (r0 r1 : SourceLog) (text frames : List ℕ) → WasRead r0 r1 text → StopsWithin p limit text frames → Begins p limit r0 r1 frames
begins_within p limit r0 r1 text frames read (front, back, parts, ended) bytes first = inl (front, back, frames, subst (WasRead r0 r1) parts read, ended, first)

pub begins_ended : (p : KindSet) (limit : ℕ) (r0 r1 : SourceLog) (text frames : List ℕ) → WasRead r0 r1 text → EncodesEnded p limit text frames → Begins p limit r0 r1 frames
begins_ended p limit r0 r1 text frames read ended bytes first = inl (text, [], frames, subst (WasRead r0 r1) (sym (append-nil text)) read, ended, first)

pub begins_whole : (p : KindSet) (limit : ℕ) (r0 r1 : SourceLog) (text frames : List ℕ) → ReadAll r0 r1 text → AreLineFrames p limit (lines_of text) frames → Begins p limit r0 r1 frames
begins_whole p limit r0 r1 text frames read are bytes first = inr (text, frames, read, are, first)

-- a write of more frames stopped
pub write_stopped : (p : KindSet) (limit : ℕ) (r0 r1 : SourceLog) (w0 w1 w2 : SinkLog) (done more : List ℕ) (e : ToolErr) → Begins p limit r0 r1 (done ++ more) → Wrote w0 w1 done → Writes more w1 w2 (Err e) → EncodesLines p limit r0 r1 w0 w2 (Err (lines.Stopped e))
write_stopped p limit r0 r1 w0 w1 w2 done more Write first wrote (front, is, failed) = (done ++ front, first (done ++ front) (longer done front more is), wrote_then_failed w0 w1 w2 done front wrote failed)
write_stopped p limit r0 r1 w0 w1 w2 done more Memory first wrote stop = absurd stop.2
write_stopped p limit r0 r1 w0 w1 w2 done more Read first wrote stop = absurd stop.2
write_stopped p limit r0 r1 w0 w1 w2 done more Bound first wrote stop = absurd stop.2
write_stopped p limit r0 r1 w0 w1 w2 done more Hex first wrote stop = absurd stop.2
write_stopped p limit r0 r1 w0 w1 w2 done more (Listing at reason) first wrote stop = absurd stop.2
write_stopped p limit r0 r1 w0 w1 w2 done more (Script at) first wrote stop = absurd stop.2
write_stopped p limit r0 r1 w0 w1 w2 done more Broken first wrote stop = absurd stop.2
write_stopped p limit r0 r1 w0 w1 w2 done more Early first wrote stop = absurd stop.2
write_stopped p limit r0 r1 w0 w1 w2 done more (Peer status) first wrote stop = absurd stop.2
write_stopped p limit r0 r1 w0 w1 w2 done more Strange first wrote stop = absurd stop.2

-- the error that was taken back: what it says of a line, where it is of one
abbrev pub IsOfLine : KindSet → ℕ → SourceLog → SourceLog → List ℕ → TakeErr → Type 0
IsOfLine p limit r0 r1 bytes take.Memory = Unit {0}
IsOfLine p limit r0 r1 bytes (take.Line line) = (r : Refused) × IsToldOf r line × RefusedIn p limit r0 r1 line.number r bytes

withdrawn : (p : KindSet) (limit : ℕ) (r0 r1 : SourceLog) (w0 w1 w2 : SinkLog) (done more : List ℕ) (e : TakeErr) (answer : LinesErr) → Begins p limit r0 r1 (done ++ more) → Wrote w0 w1 done → IsOfLine p limit r0 r1 (done ++ more) e → Withdraws e more w1 w2 answer
    → EncodesLines p limit r0 r1 w0 w2 (Err answer)
withdrawn p limit r0 r1 w0 w1 w2 done more take.Memory answer first wrote of (is, same) =
    rw is (done, first done (first_of done more), subst (λ (log : SinkLog). Wrote w0 log done) (sym same) wrote)
withdrawn p limit r0 r1 w0 w1 w2 done more (take.Line line) (lines.Line told) first wrote (r, is, refused) (same, written) =
    rw same (r, done ++ more, is, refused, wrote_more w0 w1 w2 done more wrote written)
withdrawn p limit r0 r1 w0 w1 w2 done more (take.Line line) (lines.Stopped e) first wrote of stop = write_stopped p limit r0 r1 w0 w1 w2 done more e first wrote stop

of_piece : (p : KindSet) (limit n : ℕ) (r0 r1 : SourceLog) (text bytes : List ℕ) (e : TakeErr) → Gave r0 r1 n text → Refuses p limit text bytes e → IsOfLine p limit r0 r1 bytes e
of_piece p limit n r0 r1 text bytes take.Memory gave h = tt
of_piece p limit n r0 r1 text bytes (take.Line line) gave (r, told, bad) = (r, told, inr (n, text, gave, bad))

-- a piece was not taken
pub piece_stopped : (p : KindSet) (limit n : ℕ) (r0 r1 : SourceLog) (w0 w1 w2 : SinkLog) (text done more : List ℕ) (e : TakeErr) (answer : LinesErr) → Gave r0 r1 n text → Wrote w0 w1 done → StopsWithin p limit text (done ++ more) → Refuses p limit text (done ++ more) e → Withdraws e more w1 w2 answer
    → EncodesLines p limit r0 r1 w0 w2 (Err answer)
piece_stopped p limit n r0 r1 w0 w1 w2 text done more e answer gave wrote within bad h =
    withdrawn p limit r0 r1 w0 w1 w2 done more e answer (begins_within p limit r0 r1 text (done ++ more) (inl (n, gave)) within) wrote (of_piece p limit n r0 r1 text (done ++ more) e gave bad) h

-- the end of the text was not taken
pub end_stopped : (p : KindSet) (limit : ℕ) (r0 r1 : SourceLog) (w0 w1 w2 : SinkLog) (text done more : List ℕ) (e : TakeErr) (answer : LinesErr) → ReadAll r0 r1 text → Wrote w0 w1 done → IsEnded p limit text (done ++ more) (Err e) → Withdraws e more w1 w2 answer → EncodesLines p limit r0 r1 w0 w2 (Err answer)
end_stopped p limit r0 r1 w0 w1 w2 text done more take.Memory answer read wrote ended h =
    withdrawn p limit r0 r1 w0 w1 w2 done more take.Memory answer (begins_ended p limit r0 r1 text (done ++ more) (inr read) ended) wrote tt h
end_stopped p limit r0 r1 w0 w1 w2 text done more (take.Line line) answer read wrote (ended, r, told, bad) h =
    withdrawn p limit r0 r1 w0 w1 w2 done more (take.Line line) answer (begins_ended p limit r0 r1 text (done ++ more) (inr read) ended) wrote (r, told, inl (text, read, bad)) h
