use Rattle.std.proofs.Common.{length}
use Rattle.llrp_tree.proofs.own_parts.+values_fit.Given as goal

abbrev pub decreases-values_fit : goal.decreases-values_fit
decreases-values_fit l = length l.rules.now
