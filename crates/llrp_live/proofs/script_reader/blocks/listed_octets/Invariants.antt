use Rattle.std.proofs.Common.{◌≤◌, length}
use Rattle.llrp_live.proofs.script_reader.blocks.listed_octets.Given as goal

abbrev pub invariant-lines : goal.invariant-lines
invariant-lines l = l.count ≤ length l.text

abbrev pub decreases-lines : goal.decreases-lines
decreases-lines l = length l.rest
