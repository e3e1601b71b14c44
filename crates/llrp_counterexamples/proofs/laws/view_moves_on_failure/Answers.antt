use Rattle.llrp_counterexamples.proofs.Counterexamples.{view_moves}
use Rattle.llrp_counterexamples.proofs.laws.view_moves_on_failure.Goals as goal

pub returns : goal.returns
returns c = view_moves
