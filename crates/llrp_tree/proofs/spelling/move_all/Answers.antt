use Rattle.std.proofs.Common.{arith}
use Rattle.llrp_tree.proofs.SpelledLemmas.{moves_both}
use Rattle.llrp_tree.proofs.spelling.move_all.Goals as goal

pub loop-done-preserved : goal.loop-done-preserved
loop-done-preserved c = (
  c.move_some-count.ensures.from,
  c.move_some-count.ensures.deep,
  omega (arith, c.move_some-count.ensures.moved.fits),
  moves_both _ _ _ _ c.loop-done.buf _ c.args.place c.loop-done.done c.move_some-count.result c.loop-done.invariant.3 c.move_some-count.ensures.moved,
)
