use Rattle.llrp_waits.proofs.WaitLemmas.{no_answer}
use Rattle.llrp_waits.proofs.laws.no_answer_in_time.Goals as goal

pub returns : goal.returns
returns c = no_answer
