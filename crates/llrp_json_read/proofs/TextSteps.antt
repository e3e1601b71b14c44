-- How encoding lines of JSON in memory ends.
use Rattle.std.proofs.Common.{ℕ, List, [], ◌++◌, ◌≡◌, Err, Ok, sym, subst, ap}
use Rattle.std.proofs.lemmas.List.{append-nil}
use Rattle.llrp_schema.specs.declared.kinds.KindSet.{KindSet}
use Rattle.llrp_json_read.specs.declared.run.TakeErr.{TakeErr}
use Rattle.llrp_json_read.specs.declared.run.TakeErr.TheVariants as take
use Rattle.llrp_json_read.specs.Calls.TextEncoding.{AppendsFrames}
use Rattle.llrp_json_read.specs.LinesRead.{RefusesText}
use Rattle.llrp_json_read.specs.Private.Lines.{IsEnded, Refuses, StopsWithin, lines_error}

-- some line of the text was not taken
pub text_stopped : (p : KindSet) (limit : ℕ) (text bytes old new : List ℕ) (e : TakeErr) → new ≡ old ++ bytes → StopsWithin p limit text bytes → Refuses p limit text bytes e → AppendsFrames p limit text old new (Err (lines_error e))
text_stopped p limit text bytes old new take.Memory grown (front, back, parts, ended) bad = (front, back, bytes, parts, ended, grown)
text_stopped p limit text bytes old new (take.Line line) grown within (r, told, bad) = (r, bytes, told, subst (λ (x : List ℕ). RefusesText p limit x line.number r bytes) (append-nil text) (bad []), grown)

-- its last line was not
pub last_stopped : (p : KindSet) (limit : ℕ) (text bytes old new : List ℕ) (e : TakeErr) → new ≡ old ++ bytes → IsEnded p limit text bytes (Err e) → AppendsFrames p limit text old new (Err (lines_error e))
last_stopped p limit text bytes old new take.Memory grown ended = (text, [], bytes, sym (append-nil text), ended, grown)
last_stopped p limit text bytes old new (take.Line line) grown (ended, r, told, bad) = (r, bytes, told, bad, grown)
