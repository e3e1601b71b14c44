use Rattle.std.proofs.Common.{length}
use Rattle.llrp_live.specs.Private.Reading.{TookLines, taken}
use Rattle.llrp_live.proofs.script_reader.take_lines.Given as goal

abbrev pub invariant-each : goal.invariant-each
invariant-each l = TookLines l.text l.rest (taken l.fn.lines.items l.fn.sent.items l.fn.reached) (taken l.lines.items l.sent.items l.reached)

abbrev pub decreases-each : goal.decreases-each
decreases-each l = length l.rest
