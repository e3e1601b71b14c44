use Rattle.std.proofs.Common.{rules}
use Rattle.llrp_tree.proofs.node.Node.fields.Goals as goal

pub returns : goal.returns
returns c = search rules
