use Rattle.std.proofs.Common.{◌∙◌, ap, arith}
use Rattle.llrp_tree.specs.Tree.{Tree}
use Rattle.llrp_tree.specs.Lawful.{tree_octets}
use Rattle.llrp_endpoints.proofs.PlanLemmas.{rospec_kind, rospec_octets}
use Rattle.llrp_endpoints.proofs.plan.standard.plan_of.Goals as goal

pub invariant_of-result : goal.invariant_of-result
invariant_of-result c =
    let same = c.in_ok-rospec.ensures in
    let long = ap tree_octets same ∙ rospec_octets c.args.every in
    (ap (λ (t : Tree). t.kind) same ∙ rospec_kind c.args.every, omega (arith, long))
