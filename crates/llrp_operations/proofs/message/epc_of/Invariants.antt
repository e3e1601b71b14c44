use Rattle.std.proofs.Common.{◌≡◌, drop}
use Rattle.llrp_tree.specs.Tree.{trees}
use Rattle.llrp_operations.specs.Calls.Messages.{epc_in}
use Rattle.llrp_operations.proofs.message.epc_of.Given as goal

abbrev pub invariant-loop-node : goal.invariant-loop-node
invariant-loop-node l = epc_in (trees l.fn.tag.children) ≡ epc_in (drop l.node-index (trees l.fn.tag.children))
