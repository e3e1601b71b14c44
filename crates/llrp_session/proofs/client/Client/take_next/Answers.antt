use Rattle.std.proofs.Common.{rules}
use Rattle.llrp_session.proofs.client.Client.take_next.Goals as goal

pub returns-in-Report-clause-step : goal.returns-in-Report-clause-step
returns-in-Report-clause-step c = search rules
