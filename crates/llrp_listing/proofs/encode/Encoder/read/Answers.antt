use Rattle.std.proofs.Common.{◌≡◌, ◌<◌, ◌+◌, ◌++◌, [], ℕ, length, arith, subst, length-append}
use Rattle.std.proofs.lemmas.Result.{err_from_is_err_and}
use Rattle.llrp_listing.specs.LineChecks.{longest}
use Rattle.llrp_listing.specs.Private.LineReading.{ReadsLine}
use Rattle.llrp_listing.specs.Private.EncodeBuffer.{inner}
use Rattle.llrp_listing.proofs.Closings.{none_items}
use Rattle.llrp_listing.proofs.LineSays.{line_long}
use Rattle.llrp_listing.proofs.encode.Encoder.read.Goals as goal

pub returns-then-is_empty-clause-read : goal.returns-then-is_empty-clause-read
returns-then-is_empty-clause-read c =
    let none : length c.args.self.now.line.items ≡ 0 = grind (arith, c.is_empty.ensures, c.if-is_empty.true) in
    let empty : c.args.self.now.line.items ≡ [] = none_items c.args.self.now.line.items none in
    rw empty (subst (λ (depth : ℕ). ReadsLine c.args.self.now.guess depth c.args.part.now c.read_whole.result) c.depth-depth.ensures c.read_whole.ensures)

pub returns-then-is_too_long-clause-read : goal.returns-then-is_too_long-clause-read
returns-then-is_too_long-clause-read c =
    let bytes = c.args.self.now.line.items ++ c.args.part.now in
    let long : longest c.args.self.now.guess < length c.args.self.now.line.items + length c.args.part.now = c.is_too_long.ensures c.if-is_too_long.true in
    line_long (length (inner c.args.self.now.writer.rows)) bytes (omega (arith, long, length-append c.args.self.now.line.items c.args.part.now))

pub returns-in_err-extend_from_slice-clause-read : goal.returns-in_err-extend_from_slice-clause-read
returns-in_err-extend_from_slice-clause-read c =
    let p = err_from_is_err_and c.from_residual.result c.from_residual.ensures.1 in
    rw (p.1, p.2) tt
