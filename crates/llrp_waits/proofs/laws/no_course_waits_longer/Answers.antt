use Rattle.llrp_waits.proofs.WaitLemmas.{no_longer}
use Rattle.llrp_waits.proofs.laws.no_course_waits_longer.Goals as goal

pub returns : goal.returns
returns c = no_longer
