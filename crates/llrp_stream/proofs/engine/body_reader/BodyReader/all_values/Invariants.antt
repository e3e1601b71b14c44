use Rattle.std.proofs.Common.{◌≡◌, ◌+◌, ◌≤◌, ℕ, List, length, drop}
use Rattle.llrp_stream.specs.Calls.Reading.{Are}
use Rattle.llrp_stream.specs.Private.Reading.{KeepsNode, TakenSoFar}
use Rattle.llrp_stream.proofs.engine.body_reader.BodyReader.all_values.Given as goal

abbrev pub invariant-values : goal.invariant-values
invariant-values g l = KeepsNode l.fn.self l.self × (l.left ≤ l.near) × (l.left ≤ length l.rest) × (l.self.at + l.left ≡ l.fn.self.at + l.near) × (length l.rest + l.near ≡ length l.octets + l.left) × (l.left ≡ l.near → (l.self ≡ l.fn.self) × (l.listener ≡ l.fn.listener))
    × ((was front : List ℕ) → Are (g.L.Listener.begins l.fn.listener was) (g.L.Listener.stands l.fn.listener was) l.fn.self front → drop l.fn.self.at front ≡ l.octets
    → TakenSoFar (g.L.Listener.begins l.listener was) (g.L.Listener.stands l.listener was) l.fn.self l.self front l.octets l.rest)

abbrev pub decreases-values : goal.decreases-values
decreases-values g l = l.left
