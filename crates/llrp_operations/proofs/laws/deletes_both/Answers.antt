use Rattle.llrp_operations.proofs.DeletionLemmas.{deletes_both}
use Rattle.llrp_operations.proofs.laws.deletes_both.Goals as goal

pub returns : goal.returns
returns c = deletes_both
