use Rattle.std.proofs.Common.{length}
use Rattle.llrp_json_read.proofs.guess.push_digits.Given as goal

abbrev pub decreases-octets : goal.decreases-octets
decreases-octets l = length l.left
