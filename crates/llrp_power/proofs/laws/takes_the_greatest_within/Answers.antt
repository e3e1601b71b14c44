use Rattle.llrp_power.proofs.EntryLemmas.{takes}
use Rattle.llrp_power.proofs.laws.takes_the_greatest_within.Goals as goal

pub returns : goal.returns
returns c = takes
