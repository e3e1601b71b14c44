use Rattle.std.proofs.Common.{◌≡◌, map, drop}
use Rattle.llrp_schema.specs.Calls.Schema.{group_rule}
use Rattle.llrp_tree.specs.Lawful.{has_place}
use Rattle.llrp_tree.proofs.child_checks.has_place.Given as goal

abbrev pub invariant-loop-group : goal.invariant-loop-group
invariant-loop-group l = has_place (map group_rule (drop l.group-index l.groups)) l.kind ≡ has_place (map group_rule l.groups) l.kind
