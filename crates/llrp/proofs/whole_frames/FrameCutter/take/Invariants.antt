use Rattle.std.proofs.Common.{length}
use Rattle.llrp.proofs.whole_frames.FrameCutter.take.Given as goal

abbrev pub decreases-loop-long : goal.decreases-loop-long
decreases-loop-long l = length l.rest
