use Rattle.std.proofs.Common.{◌≡◌, ℕ, List, ◌++◌, length}
use Rattle.llrp_operations.specs.Calls.Talking.{AreFrames}
use Rattle.llrp_operations.proofs.conversation.push_all.Given as goal

-- whatever the frames of what is left are, they come after those so far
abbrev pub invariant-loop-saying : goal.invariant-loop-saying
invariant-loop-saying l =
    (octets : List ℕ) × ((more : List ℕ) → AreFrames l.request l.request.epc.now l.rest more → AreFrames l.request l.request.epc.now l.fn.said (octets ++ more)) × (l.out.items ≡ l.fn.out.items ++ octets)

abbrev pub decreases-loop-saying : goal.decreases-loop-saying
decreases-loop-saying l = length l.rest
