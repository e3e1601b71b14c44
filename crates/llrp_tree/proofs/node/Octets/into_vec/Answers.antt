use Rattle.std.proofs.Common.{rules}
use Rattle.llrp_tree.proofs.node.Octets.into_vec.Goals as goal

pub returns : goal.returns
returns c = search rules
