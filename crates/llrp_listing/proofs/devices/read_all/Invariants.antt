use Rattle.std.proofs.Common.{◌-◌}
use Rattle.llrp_listing.specs.Calls.Copying.{Given}
use Rattle.llrp_listing.specs.declared.devices.TheConstants.{MOST_READS}
use Rattle.llrp_listing.proofs.devices.read_all.Given as goal

abbrev pub invariant-loop-all : goal.invariant-loop-all
invariant-loop-all g l = Given (g.R.Source.log l.fn.r) (g.R.Source.log l.r) l.pieces.reads l.all.items

abbrev pub decreases-loop-all : goal.decreases-loop-all
decreases-loop-all g l = MOST_READS - l.pieces.reads
