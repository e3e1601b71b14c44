use Rattle.llrp_commands.proofs.AnswerLemmas.{not_encoded}
use Rattle.llrp_commands.proofs.command.encoded.Goals as goal

pub returns-in-Err : goal.returns-in-Err
returns-in-Err g c = rw c.memory_error.ensures (not_encoded _ _ _ _ _ _ c.in-Err.error c.in-Err.ensures.stopped)
