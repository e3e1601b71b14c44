use Rattle.std.proofs.Common.{rules}
use Rattle.llrp_endpoints.proofs.plan.Plan.rospec.Goals as goal

pub returns : goal.returns
returns c = search rules
