use Rattle.std.proofs.Common.{length, ◌-◌}
use Rattle.llrp_c.specs.Private.Frames.{AreFrames}
use Rattle.llrp_c.proofs.frames.whole_frames.Given as goal

abbrev pub invariant-loop-more : goal.invariant-loop-more
invariant-loop-more l = AreFrames l.stream l.octets

abbrev pub decreases-loop-more : goal.decreases-loop-more
decreases-loop-more l = length l.stream - l.octets
