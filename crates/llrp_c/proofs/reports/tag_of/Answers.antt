use Rattle.std.proofs.Common.{arith}
use Rattle.llrp_schema.specs.Schema.{fields_of, rule_of, param_rule}
use Rattle.llrp_c.proofs.reports.tag_of.Goals as goal

pub overflow_cast-result : goal.overflow_cast-result
unfolding fields_of rule_of param_rule
overflow_cast-result c = omega (arith, c.field.ensures.fits)

pub overflow_cast-result-2 : goal.overflow_cast-result-2
unfolding fields_of rule_of param_rule
overflow_cast-result-2 c = omega (arith, c.field-2.ensures.fits)

pub overflow_cast-result-3 : goal.overflow_cast-result-3
unfolding fields_of rule_of param_rule
overflow_cast-result-3 c = omega (arith, c.field-3.ensures.fits)

pub overflow_cast-field : goal.overflow_cast-field
unfolding fields_of rule_of param_rule
overflow_cast-field c = omega (arith, c.field-4.ensures.fits)
