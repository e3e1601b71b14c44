-- Each parameter has at least two octets besides its tail.
use Rattle.llrp_tree.proofs.WeightLemmas.{frame_weight}
use Rattle.llrp_tree.proofs.laws.weights_are_within.Goals as goal

pub returns : goal.returns
returns c = λ m bytes limit f. frame_weight m bytes limit f
