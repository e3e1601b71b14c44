use Rattle.std.proofs.Common.{List, ℕ, length, ap, arith}
use Rattle.llrp_tree.proofs.SpelledLemmas.{drop_some}
use Rattle.llrp_tree.proofs.spelling.is_finished.Goals as goal

pub returns-then-begun-as_slice : goal.returns-then-begun-as_slice
returns-then-begun-as_slice c =
    (λ h. absurd cc, λ e. absurd (drop_some c.args.begun.now.octets c.args.begun.now.tail.now c.args.begun.now.from (omega (arith, c.if-begun-as_slice.true, ap (λ (x : List ℕ). length x) c.as_slice.ensures)) e))
