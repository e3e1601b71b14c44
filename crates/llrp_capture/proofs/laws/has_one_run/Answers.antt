use Rattle.llrp_capture.proofs.LawLemmas.{has_one_run}
use Rattle.llrp_capture.proofs.laws.has_one_run.Goals as goal

pub returns : goal.returns
returns c = has_one_run
