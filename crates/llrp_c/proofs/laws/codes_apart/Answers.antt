use Rattle.llrp_c.proofs.StatusLemmas.{codes_apart}
use Rattle.llrp_c.proofs.laws.codes_apart.Goals as goal

pub returns : goal.returns
returns c = codes_apart
