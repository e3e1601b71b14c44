use Rattle.std.proofs.Common.{length}
use Rattle.llrp_sides.specs.Private.Stretches.{TakesSome}
use Rattle.llrp_sides.proofs.stretch.Stretch.take_frames.Given as goal

abbrev pub invariant-frames : goal.invariant-frames
invariant-frames l = TakesSome l.stamp l.octets l.rest l.fn.self l.self l.fn.text l.text

abbrev pub decreases-frames : goal.decreases-frames
decreases-frames l = length l.rest
