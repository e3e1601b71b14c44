use Rattle.llrp_c.proofs.FrameLemmas.{whole_frame}
use Rattle.llrp_c.proofs.frames.first_frame.Goals as goal

pub returns-in-Frame-2-clause-found : goal.returns-in-Frame-2-clause-found
returns-in-Frame-2-clause-found c =
    (c.if-stream-octets.false, whole_frame c.in-Frame.octets c.args.stream.now c.in-Frame.ensures c.if-stream-octets.false)
