use Rattle.llrp_access.proofs.OperationLemmas.{one_result_each, outcomes-append}
use Rattle.llrp_access.proofs.laws.one_result_each.Goals as goal

pub returns-clause-each : goal.returns-clause-each
returns-clause-each c = one_result_each

pub returns-clause-goes_on : goal.returns-clause-goes_on
returns-clause-goes_on c = outcomes-append
