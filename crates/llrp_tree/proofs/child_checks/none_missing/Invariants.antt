use Rattle.std.proofs.Common.{◌≡◌, map, drop}
use Rattle.llrp_schema.specs.Calls.Schema.{group_rule}
use Rattle.llrp_tree.specs.Checks.{none_missing}
use Rattle.llrp_tree.proofs.child_checks.none_missing.Given as goal

abbrev pub invariant-loop-group : goal.invariant-loop-group
invariant-loop-group l = none_missing (map group_rule (drop l.group-index l.groups)) l.nodes ≡ none_missing (map group_rule l.groups) l.nodes
