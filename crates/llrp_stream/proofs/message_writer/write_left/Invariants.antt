use Rattle.std.proofs.Common.{◌≡◌, ℕ, ◌++◌, List, length}
use Rattle.llrp_stream.specs.Device.{Wrote}
use Rattle.llrp_stream.proofs.message_writer.write_left.Given as goal

abbrev pub invariant-loop-part : goal.invariant-loop-part
invariant-loop-part g l = (done : List ℕ) × (l.initial.spelling ≡ done ++ l.spelling) × Wrote (g.W.Sink.log l.fn.w) (g.W.Sink.log l.w) done

abbrev pub decreases-loop-part : goal.decreases-loop-part
decreases-loop-part g l = length l.spelling
