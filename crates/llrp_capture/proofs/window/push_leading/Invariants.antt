use Rattle.std.proofs.Common.{◌≡◌, ℕ, List, ◌++◌}
use Rattle.llrp_capture.proofs.WindowLemmas.{Fills}
use Rattle.llrp_capture.proofs.window.push_leading.Given as goal

-- the octets of the places so far were appended
abbrev pub invariant-loop-i : goal.invariant-loop-i
invariant-loop-i l = (more : List ℕ) × Fills l.waiting l.i more × (l.handed.items ≡ l.fn.handed.items ++ more)
