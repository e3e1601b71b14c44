use Rattle.std.proofs.Common.{rules}
use Rattle.llrp_words.proofs.arguments.network_command.Goals as goal

pub returns-clause-command : goal.returns-clause-command
returns-clause-command c = search rules
