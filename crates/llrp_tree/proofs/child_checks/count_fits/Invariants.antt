use Rattle.std.proofs.Common.{◌≡◌, ◌+◌, ◌≤◌, map, drop, length, not}
use Rattle.std.specs.Prelude.{filter}
use Rattle.llrp_schema.specs.Calls.Schema.{field_rule}
use Rattle.llrp_tree.proofs.child_checks.count_fits.Given as goal

abbrev pub invariant-loop-rule : goal.invariant-loop-rule
invariant-loop-rule l = (l.count + length (filter (λ r. not r.reserved) (map field_rule (drop l.rule-index l.rules))) ≡ length (filter (λ r. not r.reserved) (map field_rule l.rules))) × (l.count ≤ l.rule-index)
