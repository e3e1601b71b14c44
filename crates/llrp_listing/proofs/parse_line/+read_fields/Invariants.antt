use Rattle.std.proofs.Common.{length}
use Rattle.llrp_listing.proofs.parse_line.+read_fields.Given as goal

abbrev pub decreases-read_fields : goal.decreases-read_fields
decreases-read_fields l = length l.rules.now
