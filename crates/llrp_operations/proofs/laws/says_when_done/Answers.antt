use Rattle.llrp_operations.proofs.AccessLemmas.{says_when_done}
use Rattle.llrp_operations.proofs.laws.says_when_done.Goals as goal

pub returns : goal.returns
returns c = says_when_done
