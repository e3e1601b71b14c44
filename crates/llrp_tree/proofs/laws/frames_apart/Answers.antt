-- A message at its end or a fault, and of open trees that are at an end there is one.
use Rattle.llrp_tree.proofs.Frames.{not_both, one_fault, no_prefix}
use Rattle.llrp_tree.proofs.Totality.{either}
use Rattle.llrp_tree.proofs.laws.frames_apart.Goals as goal

pub returns : goal.returns
returns c = λ p limit le. record { either = either p limit le; not_both = not_both p limit; one_fault = one_fault p limit; no_prefix = no_prefix limit }
