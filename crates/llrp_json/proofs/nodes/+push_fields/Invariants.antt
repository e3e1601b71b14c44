use Rattle.std.proofs.Common.{length}
use Rattle.llrp_json.proofs.nodes.+push_fields.Given as goal

abbrev pub decreases-push_fields : goal.decreases-push_fields
decreases-push_fields l = length l.rules.now
