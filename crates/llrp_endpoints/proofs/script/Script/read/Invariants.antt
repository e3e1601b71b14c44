use Rattle.std.proofs.Common.{◌-◌}
use Rattle.llrp_listing.specs.declared.devices.TheConstants.{MOST_READS}
use Rattle.llrp_endpoints.proofs.ScriptReading.{Reading}
use Rattle.llrp_endpoints.proofs.script.Script.read.Given as goal

abbrev pub invariant-loop-line : goal.invariant-loop-line
invariant-loop-line g l = Reading (g.R.Source.log l.fn.r) (g.R.Source.log l.r) l.pieces.reads l.entries.items l.line.items

abbrev pub decreases-loop-line : goal.decreases-loop-line
decreases-loop-line g l = MOST_READS - l.pieces.reads
