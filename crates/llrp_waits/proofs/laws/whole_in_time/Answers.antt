use Rattle.llrp_waits.proofs.WaitLemmas.{whole}
use Rattle.llrp_waits.proofs.laws.whole_in_time.Goals as goal

pub returns : goal.returns
returns c = whole
