use Rattle.std.proofs.Common.{◌≤◌, ◌∙◌, ap, sym, subst, ◌<◌, ◌^◌, ℕ, arith}
use Rattle.llrp_tree.specs.Lawful.{IsLawfulTree, tree_octets}
use Rattle.llrp_endpoints.specs.Plan.{Plan}
use Rattle.llrp_endpoints.specs.Calls.Plans.{longest_rospec}
use Rattle.llrp_endpoints.proofs.plan.Plan.valid.Goals as goal

pub returns : goal.returns
returns c =
    let view = c.self.view_is in
    record {
      kind = ap (λ (p : Plan). p.rospec.kind) (sym view) ∙ c.self.invariant.0;
      lawful = subst (λ (p : Plan). IsLawfulTree p.rospec) view c.lawful.ensures;
      short = subst (λ (p : Plan). tree_octets p.rospec ≤ longest_rospec) view c.self.invariant.1;
      keepalive = subst (λ (n : ℕ). n < 2 ^ 32) c.keepalive.ensures (omega arith);
      reports = subst (λ (n : ℕ). n < 2 ^ 64) c.reports.ensures (omega arith);
      polls = subst (λ (n : ℕ). n < 2 ^ 16) c.polls.ensures (omega arith);
    }
