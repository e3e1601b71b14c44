use Rattle.std.proofs.Common.{◌+◌, ◌<◌, ◌++◌, length, inr, arith}
use Rattle.std.proofs.lemmas.Bool.Decides.{nat_tests}
use Rattle.std.proofs.lemmas.Result.{err_from_is_err_and}
use Rattle.llrp_listing.specs.Calls.Copying.{Given}
use Rattle.llrp_endpoints.specs.declared.plan.reading.TheConstants.{LONGEST_ROSPEC_TEXT}
use Rattle.llrp_endpoints.proofs.RoSpecTexts.{begins_none}
use Rattle.llrp_endpoints.proofs.plan.reading.read_rospec.Goals as goal

pub returns-in_err-extend_from_slice-clause-stopped : goal.returns-in_err-extend_from_slice-clause-stopped
returns-in_err-extend_from_slice-clause-stopped g c =
    let text = c.loop-pieces.text.items ++ c.in-Some.piece.now in
    let p = err_from_is_err_and c.from_residual-in_err-extend_from_slice.result c.from_residual-in_err-extend_from_slice.ensures.1 in
    let given : Given (g.R.Source.log c.args.r.now) (g.R.Source.log c.next.new.r) (c.loop-pieces.pieces.reads + 1) text = rw c.in-Some.is at (c.in_ok-piece.ensures.next _ _ c.loop-pieces.invariant.0) in
    rw (p.1, p.2) (text, (c.loop-pieces.pieces.reads + 1, given.gave))

pub returns-clause-enough : goal.returns-clause-enough
returns-clause-enough g c =
    let given = c.loop-pieces.invariant.0 in
    let size = c.len.ensures in
    let ended = c.loop-pieces-test.false in
    let long : LONGEST_ROSPEC_TEXT < length c.loop-pieces.text.items = grind (arith, nat_tests, size, ended) in
    inr ((c.loop-pieces.pieces.reads, given.few, given.gave), begins_none c.loop-pieces.text.items long)
