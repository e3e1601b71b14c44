use Rattle.std.proofs.Common.{◌≡◌, ◌∙◌, Some, None, ap, sym}
use Rattle.llrp_schema.specs.declared.kinds.KindSet.TheVariants.{Profile}
use Rattle.llrp_tree.specs.Tree.{Tree}
use Rattle.llrp_endpoints.specs.Calls.Plans.{plan_fault}
use Rattle.llrp_endpoints.proofs.WholePlans.{known_passes}
use Rattle.llrp_endpoints.proofs.plan.text.whole_plan.Goals as goal

pub unreachable-requires : goal.unreachable-requires
unreachable-requires c =
    let none = known_passes c.args.rospec (sym c.fault_of.ensures.fault ∙ c.in_default.is) in
    let same = sym c.in-Err.ensures.fault ∙ ap (λ (t : Tree). plan_fault Profile t) c.in_ok-known.ensures ∙ none in cc
