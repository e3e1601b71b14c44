use Rattle.std.proofs.Common.{arith, rules}
use Rattle.llrp_endpoints.specs.Plan.{rospec}
use Rattle.llrp_endpoints.proofs.PlanLemmas.{rospec_parts}
use Rattle.llrp_endpoints.proofs.plan.standard.rospec.Goals as goal

pub parameter-requires : goal.parameter-requires
parameter-requires c = rospec_parts c.args.every c.new.result.items c.in_ok-parts.parts.items _ _ _ (omega arith) c.new.ensures.items c.in_ok-parts.ensures.items c.in_ok-boundary.ensures c.in_ok-antennas.ensures c.in_ok-reporting.ensures

pub returns : goal.returns
unfolding rospec
returns c = search rules
