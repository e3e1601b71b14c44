use Rattle.std.proofs.Common.{◌≡◌, ◌+◌, ◌*◌, take}
use Rattle.llrp_schema.specs.Schema.{groups_of}
use Rattle.llrp_tree.specs.Tree.{forest}
use Rattle.llrp_tree.specs.Lawful.{levels}
use Rattle.llrp_endpoints.specs.Heard.{own_row}
use Rattle.llrp_endpoints.proofs.heard.+own.Given as goal

abbrev pub decreases-own_node : goal.decreases-own_node
decreases-own_node l = 2 * levels l.node.now.children + 1

abbrev pub decreases-own_nodes : goal.decreases-own_nodes
decreases-own_nodes l = 2 * levels (forest l.nodes.now)

abbrev pub invariant-own_nodes-loop-node : goal.invariant-own_nodes-loop-node
invariant-own_nodes-loop-node l = forest l.row.items ≡ own_row (groups_of l.parent) (forest (take l.node-index l.nodes))
