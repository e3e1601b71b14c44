use Rattle.std.proofs.Common.{◌≡◌, ◌+◌, ◌*◌, ◌≤◌, map, drop}
use Rattle.llrp_schema.specs.Calls.Schema.{field_rule}
use Rattle.llrp_schema.specs.Schema.{bits_of}
use Rattle.llrp_tree.proofs.own_parts.field_bits.Given as goal

abbrev pub invariant-loop-rule : goal.invariant-loop-rule
invariant-loop-rule l = (l.bits + bits_of (map field_rule (drop l.rule-index l.rules)) ≡ bits_of (map field_rule l.rules)) × (l.bits ≤ 4294967295 * l.rule-index)
