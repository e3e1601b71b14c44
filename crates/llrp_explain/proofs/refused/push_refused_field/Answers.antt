use Rattle.llrp_schema.specs.Calls.Schema.{field_rule}
use Rattle.std.proofs.lemmas.Result.{on_ok_weaker}
use Rattle.llrp_explain.proofs.RefusedParts.{short_refused, field_refused}
use Rattle.llrp_explain.proofs.refused.push_refused_field.Goals as goal

pub returns-in-Short : goal.returns-in-Short
returns-in-Short c = λ rest v. short_refused c.args.reason (field_rule c.args.rule.now) c.args.bit c.args.level rest c.args.text.now.items c.in-Short.is

pub returns-in_default : goal.returns-in_default
returns-in_default c = on_ok_weaker c.push_refused.result (λ e rest v. field_refused c.args.reason (field_rule c.args.rule.now) c.args.bit c.args.level c.args.value _ rest _ _ c.in_default.not-Short c.as_bytes.ensures.value v e) c.push_refused.ensures
