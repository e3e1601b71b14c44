use Rattle.llrp_counterexamples.proofs.Counterexamples.{second_starts}
use Rattle.llrp_counterexamples.proofs.laws.starts_second.Goals as goal

pub returns : goal.returns
returns c = second_starts
