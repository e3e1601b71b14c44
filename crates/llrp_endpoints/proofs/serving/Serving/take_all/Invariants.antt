use Rattle.std.proofs.Common.{ℕ, List, length}
use Rattle.llrp_tree.specs.Tree.{MessageTree}
use Rattle.llrp_session.specs.ReaderMachine.{Reader}
use Rattle.llrp_endpoints.specs.declared.script.Entry.{Entry}
use Rattle.llrp_endpoints.specs.Calls.ServingStands.{StandsFor}
use Rattle.llrp_endpoints.proofs.ServingPieces.{SoFar}
use Rattle.llrp_endpoints.proofs.serving.Serving.take_all.Given as goal

abbrev pub invariant-loop-rest : goal.invariant-loop-rest
invariant-loop-rest l = (reader : Reader) (entries : List Entry) (bytes : List ℕ) (messages : List MessageTree) → StandsFor reader entries bytes messages l.fn.self
    → SoFar reader entries bytes messages l.piece l.rest l.fn.out.items l.out.items l.self

abbrev pub decreases-loop-rest : goal.decreases-loop-rest
decreases-loop-rest l = length l.rest
