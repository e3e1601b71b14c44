use Rattle.std.proofs.Common.{rules}
use Rattle.llrp_endpoints.specs.Plan.{steps}
use Rattle.llrp_endpoints.proofs.gathering.Gathering.new.Goals as goal

pub returns : goal.returns
unfolding steps
returns c = search rules
