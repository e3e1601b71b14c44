use Rattle.std.proofs.Common.{length}
use Rattle.llrp.proofs.WholeFrameLemmas.{Passed}
use Rattle.llrp.proofs.whole_frames.whole_octets.Given as goal

-- what was passed are frames
abbrev pub invariant-loop-after : goal.invariant-loop-after
invariant-loop-after l = Passed l.fn.limit l.fn.octets l.rest

abbrev pub decreases-loop-after : goal.decreases-loop-after
decreases-loop-after l = length l.rest
