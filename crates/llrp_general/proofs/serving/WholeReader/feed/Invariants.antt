use Rattle.std.proofs.Common.{ℕ, List, length}
use Rattle.llrp_tree.specs.Tree.{MessageTree}
use Rattle.llrp_general.specs.Calls.Serving.{Setting}
use Rattle.llrp_general.specs.Private.Standing.{Stands}
use Rattle.llrp_general.proofs.PieceLemmas.{SoFar}
use Rattle.llrp_general.proofs.serving.WholeReader.feed.Given as goal

abbrev pub invariant-loop-rest : goal.invariant-loop-rest
invariant-loop-rest l = (s : Setting) (others : ℕ) (bytes : List ℕ) (messages : List MessageTree) → Stands s others bytes messages l.fn.self
    → SoFar s others bytes messages l.piece l.rest l.fn.sent.items l.sent.items l.self

abbrev pub decreases-loop-rest : goal.decreases-loop-rest
decreases-loop-rest l = length l.rest
