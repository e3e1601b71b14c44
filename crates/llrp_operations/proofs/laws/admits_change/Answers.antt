use Rattle.llrp_operations.proofs.ChangeLemmas.{admits_change}
use Rattle.llrp_operations.proofs.laws.admits_change.Goals as goal

pub returns : goal.returns
returns c = admits_change
