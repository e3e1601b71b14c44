use Rattle.std.proofs.Common.{Ok, Err}
use Rattle.std.proofs.lemmas.Result.{err_from_is_err_and}
use Rattle.llrp.proofs.NetworkLemmas.{runs_both}
use Rattle.llrp.proofs.both_ends.Connection.run.Goals as goal

pub returns-in_err-run_loop : goal.returns-in_err-run_loop
returns-in_err-run_loop g c =
    let p = err_from_is_err_and c.from_residual.result c.from_residual.ensures.1 in
    rw (p.1, p.2) (runs_both c.args.plan c.args.script c.new-core.result _ _ _ _ _ _ _ _ c.in_err-run_loop.ensures.0 c.in_err-run_loop.ensures.1 (Err c.in_err-run_loop.field-0.0) c.new-core.ensures c.new-4.ensures c.new.ensures c.new-2.ensures c.new-3.ensures c.in_err-run_loop.ensures.2)

pub returns : goal.returns
returns g c = runs_both c.args.plan c.args.script c.new-core.result _ _ _ _ _ _ _ _ c.in_ok-run_loop.ensures.0 c.in_ok-run_loop.ensures.1 (Ok c.in_ok-run_loop.field-0) c.new-core.ensures c.new-4.ensures c.new.ensures c.new-2.ensures c.new-3.ensures c.in_ok-run_loop.ensures.2
