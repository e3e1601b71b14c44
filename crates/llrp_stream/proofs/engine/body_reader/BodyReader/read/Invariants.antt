use Rattle.std.proofs.Common.{◌≡◌, ℕ, List, length, drop}
use Rattle.llrp_stream.specs.Calls.Reading.{Are}
use Rattle.llrp_stream.specs.Private.Reading.{work}
use Rattle.llrp_stream.specs.Private.Pieces.{ReadSoFar}
use Rattle.llrp_stream.proofs.engine.body_reader.BodyReader.read.Given as goal

abbrev pub invariant-parts : goal.invariant-parts
invariant-parts g l = (was front : List ℕ) → Are (g.L.Listener.begins l.fn.listener was) (g.L.Listener.stands l.fn.listener was) l.fn.self front → drop l.fn.self.at front ≡ l.octets
    → ReadSoFar (g.L.Listener.begins l.listener was) (g.L.Listener.stands l.listener was) l.fn.self l.self front l.octets l.rest

abbrev pub decreases-parts : goal.decreases-parts
decreases-parts g l = work l.self (length l.rest)
