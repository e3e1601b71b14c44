use Rattle.std.proofs.Common.{rules}
use Rattle.llrp_tree.proofs.own_parts.head_octets.Goals as goal

pub returns-else-is_tv-clause-value : goal.returns-else-is_tv-clause-value
returns-else-is_tv-clause-value c = search rules
