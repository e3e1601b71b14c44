use Rattle.std.proofs.Common.{◌∙◌, List, ℕ, ap, arith, drop}
use Rattle.llrp_tree.proofs.SpelledLemmas.{move_start}
use Rattle.llrp_tree.proofs.spelling.move_begun.Goals as goal

pub returns-then-not-is_empty-clause-moved : goal.returns-then-not-is_empty-clause-moved
returns-then-not-is_empty-clause-moved c =
    move_start c.args.begun.now.octets c.args.begun.now.tail.now c.split_at.result.1.now c.args.buf.now _ c.args.begun.now.from c.args.place c.copy_to-count.result
    (c.split_at.ensures.back ∙ ap (λ (x : List ℕ). drop c.args.begun.now.from x) c.as_slice.ensures) c.copy_to-count.ensures.count (omega (arith, c.requires.room)) c.copy_to-count.ensures.copied
