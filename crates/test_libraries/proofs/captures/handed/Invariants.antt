use Rattle.llrp_capture.specs.Calls.Reassembly.{IsSound}
use Rattle.test_libraries.proofs.captures.handed.Given as goal

abbrev pub invariant-loop-sequence : goal.invariant-loop-sequence
invariant-loop-sequence l = IsSound l.side
