use Rattle.llrp_endpoints.proofs.PlanLemmas.{antenna_stop_lawful, inventory_lawful, antenna_parts}
use Rattle.llrp_endpoints.proofs.plan.standard.antenna_inventory.Goals as goal

pub leaf-stop-requires : goal.leaf-stop-requires
leaf-stop-requires c = antenna_stop_lawful

pub leaf-inventory-requires : goal.leaf-inventory-requires
leaf-inventory-requires c = inventory_lawful

pub parameter-requires : goal.parameter-requires
parameter-requires c = antenna_parts c.in_ok-all_antennas.all_antennas.items c.in_ok-parts.parts.items c.leaf-stop.result c.leaf-inventory.result c.in_ok-all_antennas.ensures.items c.in_ok-parts.ensures.items c.leaf-stop.ensures c.leaf-inventory.ensures
