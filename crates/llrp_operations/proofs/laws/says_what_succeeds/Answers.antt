use Rattle.llrp_operations.proofs.ResultLemmas.{says_what_succeeds}
use Rattle.llrp_operations.proofs.laws.says_what_succeeds.Goals as goal

pub returns : goal.returns
returns c = says_what_succeeds
