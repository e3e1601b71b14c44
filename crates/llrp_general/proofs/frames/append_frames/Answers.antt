use Rattle.llrp_endpoints.proofs.SendingLemmas.{adds_step}
use Rattle.llrp_general.proofs.frames.append_frames.Goals as goal

pub loop-message-preserved : goal.loop-message-preserved
loop-message-preserved c = adds_step c.args.messages.now c.loop-message.message-index c.message-item.result c.args.out.now.items c.loop-message.out.items c.encode_into.new.out.items c.loop-message-test.true c.message-item.is c.loop-message.invariant c.in-Ok.ensures.ok
