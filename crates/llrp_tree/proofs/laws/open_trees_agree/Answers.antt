-- Equally many parts, so the same open tree.
use Rattle.std.proofs.Common.{refl}
use Rattle.llrp_tree.specs.Calls.OpenTree.{parts}
use Rattle.llrp_tree.proofs.Agreement.{agree_at}
use Rattle.llrp_tree.proofs.laws.open_trees_agree.Goals as goal

pub returns : goal.returns
returns c = λ t u r s st su roots same e. agree_at (parts u) t u r s st su same refl roots e
