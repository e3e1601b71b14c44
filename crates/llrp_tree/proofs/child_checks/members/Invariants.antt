use Rattle.std.proofs.Common.{◌≡◌, ◌+◌, ◌≤◌, drop}
use Rattle.llrp_schema.specs.Calls.Schema.{group_rule}
use Rattle.llrp_tree.specs.Checks.{members}
use Rattle.llrp_tree.proofs.child_checks.members.Given as goal

abbrev pub invariant-loop-node : goal.invariant-loop-node
invariant-loop-node l = (l.count + members (group_rule l.group) (drop l.node-index l.nodes) ≡ members (group_rule l.group) l.nodes) × (l.count ≤ l.node-index)
