use Rattle.std.proofs.Common.{◌≡◌, map, drop}
use Rattle.llrp_schema.specs.Calls.Schema.{group_rule}
use Rattle.llrp_tree.specs.Checks.{all_placed}
use Rattle.llrp_tree.proofs.child_checks.all_placed.Given as goal

abbrev pub invariant-loop-node : goal.invariant-loop-node
invariant-loop-node l = all_placed (map group_rule l.groups) (drop l.node-index l.nodes) ≡ all_placed (map group_rule l.groups) l.nodes
