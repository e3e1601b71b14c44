use Rattle.llrp_capture.proofs.WindowLemmas.{Covers}
use Rattle.llrp_capture.proofs.window.cover.Given as goal

abbrev pub invariant-loop-i : goal.invariant-loop-i
invariant-loop-i l = Covers l.fn.waiting.items l.ahead l.octets l.i l.waiting.items
