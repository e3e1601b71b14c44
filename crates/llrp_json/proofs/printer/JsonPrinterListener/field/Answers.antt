use Rattle.std.proofs.lemmas.Result.{on_ok_weaker}
use Rattle.llrp_schema.specs.Calls.Schema.{field_rule}
use Rattle.llrp_json.proofs.OpenJsonLemmas.{field_awaits, reserved_awaits}
use Rattle.llrp_json.proofs.PlainNames.{next_named}
use Rattle.llrp_json.proofs.printer.JsonPrinterListener.field.Goals as goal

pub push_field-requires-clause-named : goal.push_field-requires-clause-named
push_field-requires-clause-named c = next_named c.requires.some.1 (field_rule c.args.rule.now) c.requires.some.3

pub returns-then-rule : goal.returns-then-rule
returns-then-rule c = λ was t a nx. reserved_awaits _ _ _ _ _ _ was t (field_rule c.args.rule.now) c.args.value a nx c.if-rule.true

pub returns : goal.returns
returns c = on_ok_weaker c.push_field.result (λ w was t a nx. field_awaits _ _ _ _ _ _ _ was t (field_rule c.args.rule.now) c.args.value w.0 a nx c.if-rule.false w.1 w.2) c.push_field.ensures
