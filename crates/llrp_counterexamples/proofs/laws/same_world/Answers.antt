use Rattle.llrp_counterexamples.proofs.Counterexamples.{same}
use Rattle.llrp_counterexamples.proofs.laws.same_world.Goals as goal

pub returns : goal.returns
returns c = same
