use Rattle.llrp_endpoints.proofs.PlanAnswers.{takes_where_awaited}
use Rattle.llrp_endpoints.proofs.PlanFollowing.{in_order, one_by_one}
use Rattle.llrp_endpoints.proofs.laws.plan_sends_its_commands.Goals as goal

pub returns-clause-in_order : goal.returns-clause-in_order
returns-clause-in_order c = in_order

pub returns-clause-one_by_one : goal.returns-clause-one_by_one
returns-clause-one_by_one c = one_by_one

pub returns-clause-where_awaited : goal.returns-clause-where_awaited
returns-clause-where_awaited c = takes_where_awaited
