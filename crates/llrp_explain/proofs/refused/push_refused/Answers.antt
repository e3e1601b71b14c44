use Rattle.std.proofs.lemmas.Result.{on_ok_weaker}
use Rattle.llrp_explain.proofs.RefusedParts.{one_refused}
use Rattle.llrp_explain.proofs.refused.push_refused.Goals as goal

pub returns : goal.returns
returns c = on_ok_weaker c.push_line.result (λ e. one_refused c.args.bit c.args.level c.args.width c.args.value c.args.name.now _ _ _ c.requires.some c.in_ok-push_heading.ensures e) c.push_line.ensures
