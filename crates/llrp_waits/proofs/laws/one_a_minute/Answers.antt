use Rattle.llrp_waits.proofs.RepeatLemmas.{apart}
use Rattle.llrp_waits.proofs.laws.one_a_minute.Goals as goal

pub returns : goal.returns
returns c = apart
