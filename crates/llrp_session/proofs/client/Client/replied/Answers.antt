use Rattle.std.proofs.Common.{rules}
use Rattle.llrp_session.proofs.client.Client.replied.Goals as goal

pub returns-then-status-ne0-clause-step : goal.returns-then-status-ne0-clause-step
returns-then-status-ne0-clause-step c = search rules
