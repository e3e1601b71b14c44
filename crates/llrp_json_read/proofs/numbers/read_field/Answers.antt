use Rattle.json.specs.Value.{value_view}
use Rattle.llrp_schema.specs.Calls.Schema.{field_rule}
use Rattle.llrp_json_read.proofs.FieldTexts.{as_epc, as_signed, as_unsigned}
use Rattle.llrp_json_read.proofs.numbers.read_field.Goals as goal

pub returns-then-rule-eq-EPC_BITS : goal.returns-then-rule-eq-EPC_BITS
returns-then-rule-eq-EPC_BITS c = as_epc (field_rule c.args.rule.now) c.field_name-name.result.now (value_view c.args.object.now) c.read_epc.result c.if-rule-eq-EPC_BITS.true c.field_name-name.ensures c.requires c.read_epc.ensures

pub returns-then-rule : goal.returns-then-rule
returns-then-rule c = as_signed (field_rule c.args.rule.now) c.field_name-name.result.now (value_view c.args.object.now) c.read_signed.result c.if-rule-eq-EPC_BITS.false c.if-rule.true c.field_name-name.ensures c.requires c.read_signed.ensures

pub returns : goal.returns
returns c = as_unsigned (field_rule c.args.rule.now) c.field_name-name.result.now (value_view c.args.object.now) c.read_unsigned.result c.if-rule-eq-EPC_BITS.false c.if-rule.false c.field_name-name.ensures c.read_unsigned.ensures
