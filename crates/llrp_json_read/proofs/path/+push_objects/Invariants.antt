use Rattle.std.proofs.Common.{length}
use Rattle.llrp_json_read.proofs.path.+push_objects.Given as goal

abbrev pub decreases-push_objects : goal.decreases-push_objects
decreases-push_objects l = length l.places.now
