use Rattle.std.proofs.Common.{◌∙◌}
use Rattle.llrp_endpoints.proofs.WholePlans.{adding_passes}
use Rattle.llrp_endpoints.proofs.plan.text.adding_message.Goals as goal

pub unreachable-requires : goal.unreachable-requires
unreachable-requires c = adding_passes c.args.rospec _ _ c.requires c.lawful.ensures (c.new-children.ensures ∙ c.in_ok-from_array.ensures.items) c.in-Err.ensures.fault
