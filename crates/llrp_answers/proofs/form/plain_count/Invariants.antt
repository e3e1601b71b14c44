use Rattle.std.proofs.Common.{◌≡◌, ◌+◌, ◌≤◌, length, drop, map}
use Rattle.llrp_schema.specs.Calls.Schema.{field_rule}
use Rattle.llrp_answers.specs.Private.Words.{plain}
use Rattle.llrp_answers.proofs.form.plain_count.Given as goal

abbrev pub invariant-loop-rule : goal.invariant-loop-rule
invariant-loop-rule l = (l.count + length (plain (map field_rule (drop l.rule-index l.rules))) ≡ length (plain (map field_rule l.rules))) × (l.count ≤ l.rule-index)
