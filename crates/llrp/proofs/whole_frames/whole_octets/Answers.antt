use Rattle.llrp.proofs.WholeFrameLemmas.{one_passed}
use Rattle.llrp.proofs.whole_frames.whole_octets.Goals as goal

pub loop-after-preserved : goal.loop-after-preserved
loop-after-preserved c =
    let one = c.in-Some.ensures.some in
    one_passed c.args.limit c.args.octets.now c.loop-after.rest.now one.0 c.in-Some.after.now c.loop-after.invariant one.1 one.2 one.3
