use Rattle.std.proofs.lemmas.Bool.{ne_eqb}
use Rattle.std.proofs.lemmas.Result.{on_ok_weaker}
use Rattle.llrp_schema.specs.Calls.Schema.{field_rule}
use Rattle.llrp_json.proofs.PlainNames.{field_name_appended}
use Rattle.llrp_json.proofs.values.push_field_name.Goals as goal

pub returns : goal.returns
returns c = on_ok_weaker c.push_text-4.result
    (λ e. field_name_appended (field_rule c.args.rule.now) _ _ _ _ _ c.requires (ne_eqb c.args.rule.now.width 96 c.if-rule-eq-EPC_BITS.false) c.as_bytes.ensures.value c.in_ok-push_text.ensures c.in_ok-push_text-2.ensures e)
    c.push_text-4.ensures
