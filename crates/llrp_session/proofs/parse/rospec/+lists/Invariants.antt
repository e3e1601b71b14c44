use Rattle.std.proofs.Common.{length}
use Rattle.llrp_session.proofs.parse.rospec.+lists.Given as goal

abbrev pub decreases-lists : goal.decreases-lists
decreases-lists l = length l.octets.now
