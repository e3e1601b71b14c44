use Rattle.std.proofs.Common.{rules}
use Rattle.llrp_tree.proofs.decode.tail.words_at.Goals as goal

pub returns-then-stop-at : goal.returns-then-stop-at
returns-then-stop-at c = search rules
