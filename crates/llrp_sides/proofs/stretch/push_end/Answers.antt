use Rattle.std.proofs.Common.{List, ℕ, [], ◌++◌, ◌∙◌, ap, inr}
use Rattle.std.proofs.lemmas.Result.{on_ok_weaker}
use Rattle.llrp_sides.specs.Calls.Blocks.{stamped}
use Rattle.llrp_sides.proofs.stretch.push_end.Goals as goal

pub whole-requires : goal.whole-requires
whole-requires g c = (g.P.ItemPrinter.text_of_end c.args.end, ([], inr (c.in_ok-push_end.ensures [] c.requires.fresh)))

pub returns : goal.returns
returns g c = on_ok_weaker c.push_stamped.result
    (λ e. e ∙ ap (λ (x : List ℕ). c.args.text.now ++ stamped c.args.form.json c.args.stamp x) (c.whole.ensures (g.P.ItemPrinter.text_of_end c.args.end) ([], inr (c.in_ok-push_end.ensures [] c.requires.fresh)))) c.push_stamped.ensures
