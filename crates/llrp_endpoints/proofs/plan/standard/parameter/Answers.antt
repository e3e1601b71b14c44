use Rattle.llrp_endpoints.proofs.PlanLemmas.{not_refused}
use Rattle.llrp_endpoints.proofs.plan.standard.parameter.Goals as goal

pub unreachable-requires : goal.unreachable-requires
unreachable-requires c = not_refused c.args.kind c.args.fields.now c.args.tail.items c.new.result c.args.children.items c.new-2.result _ c.new.ensures c.new-2.ensures c.requires c.in-Err.ensures.fault
