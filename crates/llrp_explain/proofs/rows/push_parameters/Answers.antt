use Rattle.llrp_explain.specs.Calls.KindTexts.{parameters_at}
use Rattle.llrp_explain.proofs.KindTextLemmas.{number_init, number_step}
use Rattle.llrp_explain.proofs.rows.push_parameters.Goals as goal

pub loop-number-init : goal.loop-number-init
loop-number-init c = number_init (parameters_at c.args.set) c.args.kinds.now.items

pub loop-number-preserved : goal.loop-number-preserved
loop-number-preserved c = number_step (parameters_at c.args.set) c.loop-number.number c.args.kinds.now.items c.loop-number.kinds.items c.push_parameter_at.new.kinds.items c.loop-number.invariant c.in_ok-push_parameter_at.ensures
