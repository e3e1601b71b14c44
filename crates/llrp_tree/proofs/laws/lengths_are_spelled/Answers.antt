use Rattle.llrp_tree.proofs.LengthLemmas.{frame_length}
use Rattle.llrp_tree.proofs.laws.lengths_are_spelled.Goals as goal

pub returns-clause-message : goal.returns-clause-message
returns-clause-message c = frame_length
