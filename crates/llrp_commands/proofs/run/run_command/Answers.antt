use Rattle.std.proofs.Common.{◌∙◌, inr}
use Rattle.llrp_commands.proofs.run.run_command.Goals as goal

pub returns-clause-runs : goal.returns-clause-runs
returns-clause-runs g c = inr (rw (← c.in_ok-request.ensures.asked) c.run_request.ensures.does)

pub returns-clause-segments : goal.returns-clause-segments
returns-clause-segments g c = λ s port is m. inr (c.run_request.ensures.segments s port (c.in_ok-request.ensures.asked ∙ is) m)
