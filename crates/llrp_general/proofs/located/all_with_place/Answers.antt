use Rattle.llrp_general.proofs.LocatedLemmas.{placed_step}
use Rattle.llrp_general.proofs.located.all_with_place.Goals as goal

pub loop-message-preserved : goal.loop-message-preserved
loop-message-preserved c = rw c.in_ok-push.ensures.items (placed_step c.args.place.now c.args.said.now c.loop-message.message-index c.message-item.result c.in_ok-sent.sent c.loop-message.located.items c.loop-message-test.true c.message-item.is c.loop-message.invariant c.in_ok-sent.ensures)
