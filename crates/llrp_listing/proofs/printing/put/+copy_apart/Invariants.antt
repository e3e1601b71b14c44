use Rattle.std.specs.Prelude.{length}
use Rattle.llrp_listing.proofs.printing.put.+copy_apart.Given as goal

abbrev pub decreases-copy_apart : goal.decreases-copy_apart
decreases-copy_apart l = length l.from.now
