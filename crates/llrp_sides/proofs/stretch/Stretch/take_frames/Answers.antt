use Rattle.std.proofs.Common.{Option, ℕ, subst}
use Rattle.llrp_sides.specs.Private.Stretches.{TakesFront}
use Rattle.llrp_sides.proofs.StretchLemmas.{takes_front, takes_none}
use Rattle.llrp_sides.proofs.stretch.Stretch.take_frames.Goals as goal

pub frames-init : goal.frames-init
frames-init c = takes_none c.args.stamp c.args.octets.now c.args.self.now c.args.text.now

pub frames-preserved : goal.frames-preserved
frames-preserved c = takes_front c.args.stamp c.args.octets.now c.frames.rest.now c.split_at.result.1.now c.in-Some.used c.args.self.now c.frames.self c.take_front.new.self c.args.text.now c.frames.text c.take_front.new.text c.frames.invariant
    (subst (λ (o : Option ℕ). TakesFront c.args.stamp c.frames.rest.now o c.frames.self c.take_front.new.self c.frames.text c.take_front.new.text) c.in-Some.is c.in_ok-used.ensures.front) c.split_at.ensures.back
