use Rattle.std.proofs.Common.{◌++◌, ◌+◌}
use Rattle.std.proofs.lemmas.Result.{err_from_is_err_and}
use Rattle.llrp_listing.specs.Calls.Copying.{Given}
use Rattle.llrp_listing.proofs.devices.read_all.Goals as goal

pub returns-in_err-extend_from_slice-clause-err : goal.returns-in_err-extend_from_slice-clause-err
returns-in_err-extend_from_slice-clause-err g c =
    let p = err_from_is_err_and c.from_residual-in_err-extend_from_slice.result c.from_residual-in_err-extend_from_slice.ensures.1 in
    let given : Given (g.R.Source.log c.args.r.now) (g.R.Source.log c.next.new.r) (c.loop-all.pieces.reads + 1) (c.loop-all.all.items ++ c.in-Some.piece.now) = rw c.in-Some.is at (c.in_ok-piece.ensures.next _ _ c.loop-all.invariant) in
    rw (p.1, p.2) (c.loop-all.all.items ++ c.in-Some.piece.now, (c.loop-all.pieces.reads + 1, given.gave))
