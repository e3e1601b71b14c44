use Rattle.std.proofs.Common.{arith}
use Rattle.llrp_explain.proofs.refusals.long_head.Goals as goal

pub returns-clause-reserved : goal.returns-clause-reserved
returns-clause-reserved c = λ le. c.handed-reserved.ensures.value (omega (arith, le))

pub returns-clause-type_number : goal.returns-clause-type_number
returns-clause-type_number c = λ le. c.handed-type_number.ensures.value (omega (arith, le))

pub returns-clause-octets : goal.returns-clause-octets
returns-clause-octets c = λ le. c.handed-size.ensures.value (omega (arith, le))
