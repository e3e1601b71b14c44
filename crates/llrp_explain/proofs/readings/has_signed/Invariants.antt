use Rattle.std.proofs.Common.{◌≡◌, drop, nat_eq}
use Rattle.std.specs.Prelude.{◌&&◌, map}
use Rattle.std.specs.Cmp.Lexicographic.{pointwise}
use Rattle.std.specs.List.{list_any}
use Rattle.llrp_schema.specs.Calls.Schema.{field_rule}
use Rattle.llrp_explain.proofs.readings.has_signed.Given as goal

abbrev pub invariant-loop-rule : goal.invariant-loop-rule
invariant-loop-rule l = list_any (λ r. r.signed && pointwise nat_eq r.name l.name) (map field_rule (drop l.rule-index l.rules)) ≡ list_any (λ r. r.signed && pointwise nat_eq r.name l.name) (map field_rule l.rules)
