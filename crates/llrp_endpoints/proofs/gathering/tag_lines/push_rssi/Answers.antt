use Rattle.std.proofs.Common.{arith}
use Rattle.llrp_schema.specs.Schema.{fields_of, rule_of, param_rule}
use Rattle.llrp_endpoints.proofs.gathering.tag_lines.push_rssi.Goals as goal

pub push_signed-requires : goal.push_signed-requires
unfolding fields_of rule_of param_rule
push_signed-requires c = omega (arith, c.field.ensures.fits)
