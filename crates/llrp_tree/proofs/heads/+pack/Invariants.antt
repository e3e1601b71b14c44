use Rattle.std.proofs.Common.{length}
use Rattle.llrp_tree.proofs.heads.+pack.Given as goal

abbrev pub decreases-pack : goal.decreases-pack
decreases-pack l = length l.rules.now
