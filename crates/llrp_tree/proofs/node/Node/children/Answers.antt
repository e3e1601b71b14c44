use Rattle.std.proofs.Common.{sym}
use Rattle.llrp_tree.proofs.TreeLemmas.{trees-forest}
use Rattle.llrp_tree.proofs.node.Node.children.Goals as goal

pub returns : goal.returns
returns c = rw (← c.self.view_is) (sym (trees-forest c.self.inside.children))
