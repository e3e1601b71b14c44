use Rattle.std.proofs.Common.{refl}
use Rattle.llrp.proofs.RefusalLemmas.{heard_nothing}
use Rattle.llrp.proofs.faults.FaultFinder.heeding.Goals as goal

pub returns : goal.returns
returns c = heard_nothing c.args.limit _ c.new.ensures.stands c.new.ensures.limit c.new.ensures.refused refl
