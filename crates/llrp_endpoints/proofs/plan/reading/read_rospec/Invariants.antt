use Rattle.std.proofs.Common.{◌+◌, ◌-◌, ◌≤◌, length}
use Rattle.llrp_listing.specs.Calls.Copying.{Given}
use Rattle.llrp_listing.specs.declared.devices.TheConstants.{MOST_READS, READ_SIZE}
use Rattle.llrp_endpoints.specs.declared.plan.reading.TheConstants.{LONGEST_ROSPEC_TEXT}
use Rattle.llrp_endpoints.proofs.plan.reading.read_rospec.Given as goal

abbrev pub invariant-loop-pieces : goal.invariant-loop-pieces
invariant-loop-pieces g l = Given (g.R.Source.log l.fn.r) (g.R.Source.log l.r) l.pieces.reads l.text.items × (length l.text.items ≤ LONGEST_ROSPEC_TEXT + READ_SIZE)

abbrev pub decreases-loop-pieces : goal.decreases-loop-pieces
decreases-loop-pieces g l = MOST_READS - l.pieces.reads
