use Rattle.llrp_endpoints.proofs.PlanLemmas.{start_lawful, stop_lawful, boundary_parts}
use Rattle.llrp_endpoints.proofs.plan.standard.boundary.Goals as goal

pub leaf-start-requires : goal.leaf-start-requires
leaf-start-requires c = start_lawful

pub leaf-stop-requires : goal.leaf-stop-requires
leaf-stop-requires c = stop_lawful

pub parameter-requires : goal.parameter-requires
parameter-requires c = boundary_parts c.new.result.items c.in_ok-triggers.triggers.items c.leaf-start.result c.leaf-stop.result c.new.ensures.items c.in_ok-triggers.ensures.items c.leaf-start.ensures c.leaf-stop.ensures
