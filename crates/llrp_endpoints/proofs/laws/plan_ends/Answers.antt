use Rattle.llrp_endpoints.proofs.PlanCanEnd.{can_end}
use Rattle.llrp_endpoints.proofs.PlanMeanings.{ends_mean}
use Rattle.llrp_endpoints.proofs.laws.plan_ends.Goals as goal

pub returns-clause-mean : goal.returns-clause-mean
returns-clause-mean c = ends_mean

pub returns-clause-can_end : goal.returns-clause-can_end
returns-clause-can_end c = can_end
