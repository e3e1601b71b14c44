use Rattle.std.proofs.Common.{◌≡◌, take}
use Rattle.llrp_tree.proofs.node.+clone.Given as goal

abbrev pub invariant-Nodes::try_clone-loop-node : goal.invariant-Nodes::try_clone-loop-node
invariant-Nodes::try_clone-loop-node l = l.items.items ≡ take l.node-index l.node-items
