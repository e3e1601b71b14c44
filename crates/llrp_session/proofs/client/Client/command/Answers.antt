use Rattle.std.proofs.Common.{rules}
use Rattle.llrp_session.proofs.client.Client.command.Goals as goal

pub returns-in-Some-clause-handed_back : goal.returns-in-Some-clause-handed_back
returns-in-Some-clause-handed_back c = search rules
