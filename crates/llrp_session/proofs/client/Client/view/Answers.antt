use Rattle.std.proofs.Common.{rules}
use Rattle.llrp_session.proofs.client.Client.view.Goals as goal

pub returns : goal.returns
returns c = search rules
