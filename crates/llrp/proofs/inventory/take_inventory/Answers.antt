use Rattle.std.proofs.Common.{◌∙◌, Ok, Err}
use Rattle.std.proofs.lemmas.Result.{err_from_is_err_and}
use Rattle.llrp.proofs.NetworkLemmas.{follows}
use Rattle.llrp.proofs.inventory.take_inventory.Goals as goal

pub returns-in_err-run_inventory : goal.returns-in_err-run_inventory
returns-in_err-run_inventory g c =
    let p = err_from_is_err_and c.from_residual.result c.from_residual.ensures.1 in
    rw (p.1, p.2) (follows c.args.limit c.args.plan _ _ _ _ _ _ c.in_err-run_inventory.ensures.0 (Err c.in_err-run_inventory.field-0.0) (c.new-source.ensures.log ∙ c.new-reads.ensures) c.new-sink.ensures c.in_err-run_inventory.ensures.1)

pub returns : goal.returns
returns g c = follows c.args.limit c.args.plan _ _ _ _ _ _ c.in_ok-run_inventory.ensures.0 (Ok c.in_ok-run_inventory.field-0) (c.new-source.ensures.log ∙ c.new-reads.ensures) c.new-sink.ensures c.in_ok-run_inventory.ensures.1
