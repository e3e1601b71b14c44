use Rattle.std.proofs.Common.{arith}
use Rattle.llrp_endpoints.proofs.PlanLemmas.{selector_lawful, reporting_parts}
use Rattle.llrp_endpoints.proofs.plan.standard.reporting.Goals as goal

pub leaf-selector-requires : goal.leaf-selector-requires
leaf-selector-requires c = selector_lawful

pub parameter-requires : goal.parameter-requires
parameter-requires c = reporting_parts c.args.every c.new.result.items c.in_ok-parts.parts.items c.leaf-selector.result (omega arith) c.new.ensures.items c.in_ok-parts.ensures.items c.leaf-selector.ensures
