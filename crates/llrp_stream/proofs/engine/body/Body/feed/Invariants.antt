use Rattle.std.proofs.Common.{ℕ, ◌≤◌, List, ◌++◌, length}
use Rattle.llrp_stream.specs.Calls.Pieces.{BodyStands}
use Rattle.llrp_stream.specs.Private.Pieces.{FedSoFar}
use Rattle.llrp_stream.proofs.engine.body.Body.feed.Given as goal

abbrev pub invariant-raw : goal.invariant-raw
invariant-raw g l = (was front : List ℕ) → BodyStands (g.L.Listener.begins l.fn.listener was) (g.L.Listener.stands l.fn.listener was) l.fn.self front → length (front ++ l.piece) ≤ l.fn.self.reader.octets
    → FedSoFar (g.L.Listener.begins l.listener was) (g.L.Listener.stands l.listener was) l.fn.self l.self front l.piece l.rest

abbrev pub decreases-raw : goal.decreases-raw
decreases-raw g l = length l.rest
