use Rattle.std.proofs.Common.{◌≡◌, drop}
use Rattle.std.specs.Prelude.{bytes_eq, map}
use Rattle.std.specs.List.{list_any}
use Rattle.llrp_json_read.specs.Private.Words.{member_rule}
use Rattle.llrp_json_read.proofs.names.is_among.Given as goal

abbrev pub invariant-loop-rule : goal.invariant-loop-rule
invariant-loop-rule l = list_any (λ rule. bytes_eq rule.name l.name) (map member_rule (drop l.rule-index l.rules)) ≡ list_any (λ rule. bytes_eq rule.name l.name) (map member_rule l.rules)
