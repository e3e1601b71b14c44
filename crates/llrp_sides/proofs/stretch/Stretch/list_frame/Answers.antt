use Rattle.std.proofs.Common.{List, ℕ, ◌++◌, ◌∙◌, ap, refl}
use Rattle.std.proofs.lemmas.Result.{on_ok_weaker}
use Rattle.llrp_sides.specs.Calls.Blocks.{stamped}
use Rattle.llrp_sides.proofs.StretchSteps.{frame_listed}
use Rattle.llrp_sides.proofs.stretch.Stretch.list_frame.Goals as goal

pub returns : goal.returns
returns c = on_ok_weaker c.push_stamped.result
    (λ e. frame_listed c.args.stamp c.args.frame.now c.in-Some.listing.items c.in-Some.verdict c.args.self.now _ c.args.text.now _ c.requires c.in-Some.ensures refl c.is_lawful_with-self.ensures
    (e ∙ ap (λ (x : List ℕ). c.args.text.now ++ stamped c.args.self.now.form.json c.args.stamp x) c.as_slice.ensures.value)) c.push_stamped.ensures
