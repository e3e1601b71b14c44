use Rattle.std.proofs.Common.{length}
use Rattle.llrp_json_read.proofs.guess.digits_ahead.Given as goal

abbrev pub decreases-digits : goal.decreases-digits
decreases-digits l = length l.rest
