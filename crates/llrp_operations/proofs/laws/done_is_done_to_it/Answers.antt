use Rattle.llrp_operations.proofs.AccessLemmas.{done_is_done_to_it}
use Rattle.llrp_operations.proofs.laws.done_is_done_to_it.Goals as goal

pub returns : goal.returns
returns c = done_is_done_to_it
