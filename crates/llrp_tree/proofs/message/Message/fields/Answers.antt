use Rattle.std.proofs.Common.{rules}
use Rattle.llrp_tree.proofs.message.Message.fields.Goals as goal

pub returns : goal.returns
returns c = search rules
