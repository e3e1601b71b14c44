use Rattle.std.proofs.Common.{List, ℕ, refl, subst, sym}
use Rattle.llrp_stream.specs.Cuts.{IsFrame}
use Rattle.llrp_sides.specs.Private.Stretches.{ListsFrame}
use Rattle.llrp_sides.proofs.StretchSteps.{is_first, leaves_broken}
use Rattle.llrp_sides.proofs.stretch.Stretch.take_front.Goals as goal

pub list_frame-requires : goal.list_frame-requires
list_frame-requires c = subst (λ (x : List ℕ). IsFrame x) (sym c.split_at.ensures.front) (is_first c.args.octets.now c.in-Frame.count c.in-Frame.ensures.0 c.in-Frame.ensures.1)

pub returns-in_ok-list_frame-in-Frame-clause-front : goal.returns-in_ok-list_frame-in-Frame-clause-front
returns-in_ok-list_frame-in-Frame-clause-front c = (
  is_first c.args.octets.now c.in-Frame.count c.in-Frame.ensures.0 c.in-Frame.ensures.1,
  subst (λ (x : List ℕ). ListsFrame c.args.stamp x c.args.self.now c.list_frame.new.self c.args.text.now c.list_frame.new.text) c.split_at.ensures.front c.in_ok-list_frame-in-Frame.ensures,
)

pub returns-in_ok-break_off-in-Broken-clause-front : goal.returns-in_ok-break_off-in-Broken-clause-front
returns-in_ok-break_off-in-Broken-clause-front c = leaves_broken c.args.stamp c.args.octets.now c.args.self.now _ c.args.text.now _ c.in-Broken.ensures c.in_ok-break_off-in-Broken.ensures
