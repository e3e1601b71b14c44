use Rattle.std.proofs.Common.{◌-◌, drop, length, map, take}
use Rattle.std.proofs.lemmas.Result.{on_ok_weaker}
use Rattle.llrp_schema.specs.Calls.Schema.{field_rule}
use Rattle.llrp_json.proofs.NodeObjects.{field_added, plain_in, rules_first, values_first}
use Rattle.llrp_json.proofs.nodes.+push_fields.Goals as goal

pub returns : goal.returns
returns t c =
    let all = map field_rule c.args.rules.now in
    let rest = map field_rule (take (length c.args.rules.now - 1) (drop 1 c.args.rules.now)) in
    let is = rules_first c.args.rules.now _ c.in-len1-up.len_at_least in
    let are = values_first c.args.values.now _ c.in-len1-up-values.len_at_least in
    let value = c.in_ok-push_field.ensures in
    on_ok_weaker c.push_fields-2.result (λ w. field_added all rest _ _ c.args.values.now _ (plain_in _ rest all is c.if-rule.false) are value.0 c.args.text.now _ _ value.1 value.2 w) c.push_fields-2.ensures
