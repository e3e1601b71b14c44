use Rattle.llrp_endpoints.proofs.SentWithinLimit.{sends_within_limit}
use Rattle.llrp_endpoints.proofs.laws.sent_within_limit.Goals as goal

pub returns : goal.returns
returns c = sends_within_limit
