use Rattle.llrp_endpoints.proofs.PlanRefusals.{each_is_taken}
use Rattle.llrp_endpoints.proofs.PlanEnds.{strange_is_the_readers}
use Rattle.llrp_endpoints.proofs.laws.plan_is_never_refused.Goals as goal

pub returns-clause-each_command_is_taken : goal.returns-clause-each_command_is_taken
returns-clause-each_command_is_taken c = each_is_taken

pub returns-clause-strange_is_the_readers : goal.returns-clause-strange_is_the_readers
returns-clause-strange_is_the_readers c = strange_is_the_readers
