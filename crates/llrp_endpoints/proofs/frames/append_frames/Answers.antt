use Rattle.std.proofs.Common.{refl}
use Rattle.llrp_endpoints.proofs.SendingLemmas.{adds_step, some_at}
use Rattle.llrp_endpoints.proofs.frames.append_frames.Goals as goal

pub loop-message-preserved : goal.loop-message-preserved
loop-message-preserved c = adds_step c.args.messages.now c.loop-message.message-index c.message-item.result c.args.out.now.items c.loop-message.out.items c.encode_into.new.out.items c.loop-message-test.true c.message-item.is c.loop-message.invariant c.in-Ok.ensures.ok

pub returns-in-Err-Memory-clause-err : goal.returns-in-Err-Memory-clause-err
returns-in-Err-Memory-clause-err c = (refl, some_at c.args.messages.now c.loop-message.message-index c.args.out.now.items c.loop-message.out.items c.encode_into.new.out.items c.loop-message.invariant c.in-Err-Memory.ensures.err)
