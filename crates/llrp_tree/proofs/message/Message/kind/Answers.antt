use Rattle.std.proofs.Common.{rules}
use Rattle.llrp_tree.proofs.message.Message.kind.Goals as goal

pub returns : goal.returns
returns c = search rules
