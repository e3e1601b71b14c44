use Rattle.llrp_explain.specs.Calls.KindTexts.{short_at}
use Rattle.llrp_explain.proofs.KindTextLemmas.{number_init, number_step}
use Rattle.llrp_explain.proofs.rows.push_short.Goals as goal

pub loop-number-init : goal.loop-number-init
loop-number-init c = number_init (short_at c.args.set) c.args.kinds.now.items

pub loop-number-preserved : goal.loop-number-preserved
loop-number-preserved c = number_step (short_at c.args.set) c.loop-number.number c.args.kinds.now.items c.loop-number.kinds.items c.push_short_at.new.kinds.items c.loop-number.invariant c.in_ok-push_short_at.ensures
