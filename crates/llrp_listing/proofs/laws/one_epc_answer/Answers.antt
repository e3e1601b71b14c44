use Rattle.llrp_listing.proofs.OneEpcAnswer.{one_answer, one_verdict}
use Rattle.llrp_listing.proofs.laws.one_epc_answer.Goals as goal

pub returns-clause-verdict : goal.returns-clause-verdict
returns-clause-verdict c = one_verdict

pub returns-clause-lines : goal.returns-clause-lines
returns-clause-lines c = one_answer
