use Rattle.llrp_c.proofs.FrameLemmas.{goes_on}
use Rattle.llrp_c.proofs.frames.whole_frames.Goals as goal

pub loop-more-preserved : goal.loop-more-preserved
loop-more-preserved c = goes_on c.args.stream.now c.loop-more.octets c.in-Frame.more c.loop-more.invariant c.in-Frame.ensures c.if-rest-more.false
