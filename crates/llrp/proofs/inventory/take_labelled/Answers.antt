use Rattle.std.proofs.Common.{◌∙◌, Ok, Err}
use Rattle.std.proofs.lemmas.Result.{err_from_is_err_and}
use Rattle.llrp.proofs.LabelLemmas.{follows_told}
use Rattle.llrp.proofs.inventory.take_labelled.Goals as goal

pub returns-in_err-run_watching : goal.returns-in_err-run_watching
returns-in_err-run_watching g c =
    let p = err_from_is_err_and c.from_residual.result c.from_residual.ensures.1 in
    rw (p.1, p.2) (follows_told c.args.limit c.args.plan _ _ _ _ _ _ (Err c.in_err-run_watching.field-0.0) (c.new-source.ensures.log ∙ c.new-reads.ensures) c.new-sink.ensures c.in_err-run_watching.ensures)

pub returns : goal.returns
returns g c = follows_told c.args.limit c.args.plan _ _ _ _ _ _ (Ok c.in_ok-run_watching.field-0) (c.new-source.ensures.log ∙ c.new-reads.ensures) c.new-sink.ensures c.in_ok-run_watching.ensures
