use Rattle.std.proofs.Common.{length}
use Rattle.llrp_explain.proofs.missing.+push_first_missing.Given as goal

abbrev pub decreases-push_first_missing : goal.decreases-push_first_missing
decreases-push_first_missing l = length l.groups.now
