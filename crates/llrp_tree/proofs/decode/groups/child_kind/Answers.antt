use Rattle.std.proofs.Common.{rules}
use Rattle.llrp_tree.proofs.decode.groups.child_kind.Goals as goal

pub returns-then-level-gt-MAX_DEPTH : goal.returns-then-level-gt-MAX_DEPTH
returns-then-level-gt-MAX_DEPTH c = search rules
