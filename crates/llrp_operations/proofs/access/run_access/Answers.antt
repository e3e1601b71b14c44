use Rattle.std.proofs.Common.{refl}
use Rattle.llrp_operations.proofs.TurnLemmas.{fails_later}
use Rattle.llrp_operations.proofs.access.run_access.Goals as goal

pub returns-clause-failed : goal.returns-clause-failed
returns-clause-failed g c = fails_later c.args.errand.request _ _ _ _ c.in_ok-talked.talked _ c.in_ok-talked.ensures.talks refl
