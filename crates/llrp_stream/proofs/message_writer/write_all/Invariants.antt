use Rattle.std.proofs.Common.{◌≡◌, ℕ, ◌++◌, List, length}
use Rattle.llrp_stream.specs.Device.{Wrote}
use Rattle.llrp_stream.proofs.message_writer.write_all.Given as goal

abbrev pub invariant-loop-rest : goal.invariant-loop-rest
invariant-loop-rest g l = (done : List ℕ) × (l.bytes ≡ done ++ l.rest) × Wrote (g.W.Sink.log l.fn.w) (g.W.Sink.log l.w) done

abbrev pub decreases-loop-rest : goal.decreases-loop-rest
decreases-loop-rest g l = length l.rest
