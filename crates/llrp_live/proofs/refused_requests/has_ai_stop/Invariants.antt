use Rattle.std.proofs.Common.{◌≡◌, drop}
use Rattle.std.specs.Prelude.{filter}
use Rattle.std.specs.List.{list_any}
use Rattle.llrp_schema.specs.declared.kinds.ParamKind.TheVariants.{AiSpec}
use Rattle.llrp_session.specs.RoSpec.{is_kind, stops_by_itself}
use Rattle.llrp_live.proofs.refused_requests.has_ai_stop.Given as goal

abbrev pub invariant-loop-node : goal.invariant-loop-node
invariant-loop-node l = list_any stops_by_itself (filter (is_kind AiSpec) l.fn.nodes) ≡ list_any stops_by_itself (filter (is_kind AiSpec) (drop l.node-index l.fn.nodes))
