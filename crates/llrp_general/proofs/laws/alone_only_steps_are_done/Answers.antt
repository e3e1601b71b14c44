use Rattle.llrp_general.proofs.NoteLemmas.{nothing_else}
use Rattle.llrp_general.proofs.laws.alone_only_steps_are_done.Goals as goal

pub returns : goal.returns
returns c = nothing_else
