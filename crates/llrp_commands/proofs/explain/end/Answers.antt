use Rattle.std.proofs.Common.{◌≡◌, rules}
use Rattle.std.proofs.lemmas.Result.{err_from_is_err_and}
use Rattle.llrp_commands.proofs.ExplainRuns.{unended}
use Rattle.llrp_commands.proofs.explain.end.Goals as goal

pub returns-in_err-write_all : goal.returns-in_err-write_all
returns-in_err-write_all g c =
    let p = err_from_is_err_and c.from_residual-in_err-write_all.result c.from_residual-in_err-write_all.ensures.1 in
    let same : c.as_slice.result.now ≡ c.in_ok-text.field-0.text.items = search rules in
    rw (p.1, p.2) (unended c.args.explainer c.in_ok-text.field-0.text.items c.in_ok-text.field-0.lawful _ _ _ c.in_ok-text.ensures (rw same at c.in_err-write_all.ensures))
