use Rattle.std.proofs.Common.{take, ◌+◌, ◌*◌}
use Rattle.llrp_tree.specs.Lawful.{levels}
use Rattle.llrp_tree.specs.Tree.{forest}
use Rattle.llrp_explain.specs.Calls.ExplainLines.{forest_lines}
use Rattle.llrp_explain.specs.Calls.Printed.{Adds}
use Rattle.llrp_explain.proofs.walk.+walk.Given as goal

abbrev pub invariant-push_nodes-loop-node : goal.invariant-push_nodes-loop-node
invariant-push_nodes-loop-node l = Adds (forest_lines l.level (forest (take l.node-index l.nodes))) l.fn.lines l.lines

abbrev pub decreases-push_node : goal.decreases-push_node
decreases-push_node l = 2 * levels l.node.now.children + 1

abbrev pub decreases-push_nodes : goal.decreases-push_nodes
decreases-push_nodes l = 2 * levels (forest l.nodes.now)
