use Rattle.std.proofs.Common.{◌+◌, ◌++◌, ◌∙◌, length, arith, ap, take, drop, List, ℕ}
use Rattle.llrp_tree.proofs.SpelledLemmas.{moved_count, fill_count, fill_left, fill_filled}
use Rattle.llrp_tree.proofs.spelling.Spelling.fill_from.Goals as goal

pub overflow_cast-self : goal.overflow_cast-self
overflow_cast-self c =
    omega (arith, moved_count _ _ _ _ c.args.place c.move_all-count.result c.move_all-count.ensures.moved, ap (λ (x : List ℕ). length x) c.self.view_is, c.left-left.ensures, c.left-left.type_inv)

pub overflow_sub-self : goal.overflow_sub-self
overflow_sub-self c =
    omega (arith, moved_count _ _ _ _ c.args.place c.move_all-count.result c.move_all-count.ensures.moved, ap (λ (x : List ℕ). length x) c.self.view_is, c.left-left.ensures)

pub invariant_of-self : goal.invariant_of-self
invariant_of-self c = (
  omega (arith, moved_count _ _ _ _ c.args.place c.move_all-count.result c.move_all-count.ensures.moved, ap (λ (x : List ℕ). length x) c.self.view_is, c.left-left.ensures),
  c.move_all-count.ensures.from,
  c.move_all-count.ensures.deep,
)

pub returns-clause-count : goal.returns-clause-count
returns-clause-count c =
    rw (← c.self.view_is) (fill_count _ _ _ _ c.args.place c.move_all-count.result c.move_all-count.ensures.moved c.move_all-count.ensures.full)

pub returns-clause-left : goal.returns-clause-left
returns-clause-left c =
    fill_left _ _ _ _ c.args.place c.move_all-count.result c.move_all-count.ensures.moved ∙ ap (λ (x : List ℕ). drop c.move_all-count.result x) c.self.view_is

pub returns-clause-filled : goal.returns-clause-filled
returns-clause-filled c =
    fill_filled _ _ _ _ c.args.place c.move_all-count.result c.move_all-count.ensures.moved
    ∙ ap (λ (x : List ℕ). take c.args.place c.args.buf.now ++ (take c.move_all-count.result x ++ drop (c.args.place + c.move_all-count.result) c.args.buf.now)) c.self.view_is
