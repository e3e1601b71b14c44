use Rattle.std.proofs.Common.{arith}
use Rattle.llrp_endpoints.proofs.MomentLemmas.{years_none, years_more}
use Rattle.llrp_endpoints.proofs.moment.years_in.Goals as goal

pub loop-years-init : goal.loop-years-init
loop-years-init c = let none = years_none in record { whole = omega arith; few = omega arith }

pub loop-years-preserved : goal.loop-years-preserved
loop-years-preserved c = let more = years_more c.loop-years.years in record { whole = omega arith; few = omega arith }
