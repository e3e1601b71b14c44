use Rattle.std.proofs.Common.{◌≡◌, ℕ, ◌<◌}
use Rattle.std.specs.Prelude.{None}
use Rattle.llrp_capture.specs.Calls.Pieces.{at_place}
use Rattle.llrp_capture.proofs.window.missing.Given as goal

abbrev pub invariant-loop-i : goal.invariant-loop-i
invariant-loop-i l = (k : ℕ) → k < l.i → at_place l.waiting k ≡ None
