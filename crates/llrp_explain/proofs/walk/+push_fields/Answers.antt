use Rattle.std.proofs.Common.{map, ap}
use Rattle.llrp_schema.specs.Calls.Schema.{field_rule}
use Rattle.llrp_tree.proofs.SpellingLemmas.{none_below}
use Rattle.llrp_explain.proofs.WalkLemmas.{no_fields, reserved_added, plain_added, rules_first}
use Rattle.llrp_explain.proofs.walk.+push_fields.Goals as goal

pub returns-in_default : goal.returns-in_default
returns-in_default t c = no_fields c.args.level (map field_rule c.args.rules.now) c.args.values.now c.args.lines.now (ap (map field_rule) (none_below c.args.rules.now c.in_default.len_below))

pub returns-then-rule : goal.returns-then-rule
returns-then-rule t c =
    reserved_added c.push_fields.result c.args.level _ _ (map field_rule c.args.rules.now) c.args.values.now c.as_bytes.result.now c.args.lines.now c.number.new.self c.push_fields.new.lines (rules_first c.args.rules.now _ c.in-len1-up.len_at_least) c.if-rule.true c.as_bytes.ensures.value c.in_ok-number.ensures c.push_fields.ensures

pub returns : goal.returns
returns t c =
    plain_added c.push_fields-2.result c.args.level c.next_value-value.result.0 _ _ (map field_rule c.args.rules.now) c.args.values.now c.next_value-value.result.1.now c.as_bytes-2.result.now c.args.lines.now c.number-2.new.self c.push_fields-2.new.lines (rules_first c.args.rules.now _ c.in-len1-up.len_at_least) c.if-rule.false
    c.next_value-value.ensures.first c.next_value-value.ensures.others c.as_bytes-2.ensures.value c.in_ok-number-2.ensures c.push_fields-2.ensures
