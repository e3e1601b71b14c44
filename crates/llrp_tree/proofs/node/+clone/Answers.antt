use Rattle.std.proofs.Common.{rules}
use Rattle.llrp_tree.proofs.node.+clone.Goals as goal

pub Node::try_clone-invariant_of-result : goal.Node::try_clone-invariant_of-result
Node::try_clone-invariant_of-result c = search rules

pub Node::try_clone-returns : goal.Node::try_clone-returns
Node::try_clone-returns c = search rules
