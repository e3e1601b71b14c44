use Rattle.std.proofs.Common.{rules}
use Rattle.llrp_endpoints.proofs.plan.Plan.every.Goals as goal

pub returns : goal.returns
returns c = search rules
