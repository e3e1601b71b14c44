use Rattle.llrp_power.proofs.EntryLemmas.{has_least}
use Rattle.llrp_power.proofs.laws.names_the_least.Goals as goal

pub returns : goal.returns
returns c = has_least
