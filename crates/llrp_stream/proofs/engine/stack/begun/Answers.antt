use Rattle.std.proofs.lemmas.Nat.Bits.{bit_at-zero}
use Rattle.llrp_tree.specs.Lawful.{count}
use Rattle.llrp_stream.proofs.engine.stack.begun.Goals as goal

pub returns-clause-seen : goal.returns-clause-seen
unfolding count
returns-clause-seen c = λ k d lt. bit_at-zero k
