use Rattle.std.proofs.Common.{rules}
use Rattle.llrp_endpoints.proofs.gathering.remaining.RemainingCommands.split.Goals as goal

pub returns-in-Adding : goal.returns-in-Adding
returns-in-Adding c = search rules
