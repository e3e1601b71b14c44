use Rattle.llrp_endpoints.proofs.WithinLimit.{says_within_limit}
use Rattle.llrp_endpoints.proofs.laws.served_within_limit.Goals as goal

pub returns : goal.returns
returns c = says_within_limit
