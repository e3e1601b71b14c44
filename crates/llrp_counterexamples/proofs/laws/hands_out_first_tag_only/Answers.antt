use Rattle.llrp_counterexamples.proofs.Counterexamples.{first_tag_only}
use Rattle.llrp_counterexamples.proofs.laws.hands_out_first_tag_only.Goals as goal

pub returns : goal.returns
returns c = first_tag_only
