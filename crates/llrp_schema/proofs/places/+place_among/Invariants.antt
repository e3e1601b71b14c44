-- Each call has one group fewer.
use Rattle.std.proofs.Common.{length}
use Rattle.llrp_schema.proofs.places.+place_among.Given as goal

abbrev pub decreases-place_among : goal.decreases-place_among
decreases-place_among l = length l.groups.now
