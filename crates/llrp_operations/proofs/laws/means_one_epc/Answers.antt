use Rattle.llrp_operations.proofs.TargetLemmas.{means_one_epc}
use Rattle.llrp_operations.proofs.laws.means_one_epc.Goals as goal

pub returns : goal.returns
returns c = means_one_epc
