use Rattle.llrp_access.proofs.OperationLemmas.{all_keep}
use Rattle.llrp_access.proofs.laws.banks_keep_their_lengths.Goals as goal

pub returns : goal.returns
returns c = all_keep
