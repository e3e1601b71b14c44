use Rattle.llrp_capture.specs.Calls.Reassembly.{IsSound}
use Rattle.llrp_sides.proofs.side.Side.put_beyond.Given as goal

abbrev pub invariant-gaps : goal.invariant-gaps
invariant-gaps l = IsSound l.reassembly
