use Rattle.llrp_explain.specs.Calls.KindTexts.{messages_at}
use Rattle.llrp_explain.proofs.KindTextLemmas.{number_init, number_step}
use Rattle.llrp_explain.proofs.rows.push_messages.Goals as goal

pub loop-number-init : goal.loop-number-init
loop-number-init c = number_init (messages_at c.args.set) c.args.kinds.now.items

pub loop-number-preserved : goal.loop-number-preserved
loop-number-preserved c = number_step (messages_at c.args.set) c.loop-number.number c.args.kinds.now.items c.loop-number.kinds.items c.push_message_at.new.kinds.items c.loop-number.invariant c.in_ok-push_message_at.ensures
