use Rattle.std.proofs.Common.{sym, subst}
use Rattle.llrp.specs.Calls.Refusals.{Hears}
use Rattle.llrp.specs.declared.faults.FaultFinder.{FaultFinder}
use Rattle.llrp.proofs.listening.Listening.hear.Goals as goal

pub returns-then-are_asked-clause-hears : goal.returns-then-are_asked-clause-hears
returns-then-are_asked-clause-hears g c = subst (λ (f : FaultFinder). Hears c.args.octets.now c.args.self.now.faults f) (sym c.say.ensures.faults) c.take.ensures
