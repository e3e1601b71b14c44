use Rattle.std.proofs.Common.{List, ℕ, [], ◌++◌, ◌∙◌, ap, inr}
use Rattle.std.proofs.lemmas.Result.{on_ok_weaker}
use Rattle.llrp_sides.specs.Calls.Blocks.{stamped}
use Rattle.llrp_sides.proofs.stretch.push_fault.Goals as goal

pub whole-requires : goal.whole-requires
whole-requires g c = let p = c.in_ok-push_fault.ensures [] c.requires.fresh in (p.0, ([], inr p.2))

pub returns : goal.returns
returns g c =
    let p = c.in_ok-push_fault.ensures [] c.requires.fresh in
    on_ok_weaker c.push_stamped.result
    (λ e. (p.0, p.1, e ∙ ap (λ (x : List ℕ). c.args.text.now ++ stamped c.args.form.json c.args.stamp x) (c.whole.ensures p.0 ([], inr p.2)))) c.push_stamped.ensures
