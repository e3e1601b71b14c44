use Rattle.llrp_counterexamples.proofs.Counterexamples.{end_last}
use Rattle.llrp_counterexamples.proofs.laws.end_event_after_response.Goals as goal

pub returns : goal.returns
returns c = end_last
