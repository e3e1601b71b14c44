use Rattle.std.proofs.Common.{length}
use Rattle.llrp.proofs.timed.note.Given as goal

abbrev pub decreases-loop-frame : goal.decreases-loop-frame
decreases-loop-frame l = length l.rest
