use Rattle.std.proofs.Common.{◌≡◌, ℕ, ◌+◌, ◌*◌, ◌++◌, List, take}
use Rattle.llrp_tree.specs.Tree.{forest}
use Rattle.llrp_tree.specs.Lawful.{levels}
use Rattle.llrp_json.specs.JsonItems.{AreParameters}
use Rattle.llrp_json.specs.Calls.OpenJson.{is_parent, listed}
use Rattle.llrp_json.proofs.nodes.+nodes.Given as goal

abbrev pub decreases-push_node : goal.decreases-push_node
decreases-push_node l = 2 * levels l.node.now.children + 1

abbrev pub decreases-push_nodes : goal.decreases-push_nodes
decreases-push_nodes l = 2 * levels (forest l.nodes.now)

abbrev pub invariant-push_nodes-loop-node : goal.invariant-push_nodes-loop-node
invariant-push_nodes-loop-node l = record {
  known : l.is_parent ≡ is_parent (forest (take l.node-index l.nodes));
  texts : (texts : List (List ℕ)) × AreParameters (forest (take l.node-index l.nodes)) texts × (l.text ≡ l.fn.text ++ listed texts);
}
