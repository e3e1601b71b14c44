use Rattle.std.proofs.Common.{◌≡◌, drop}
use Rattle.llrp_session.specs.Calls.Due.{sooner}
use Rattle.llrp_live.specs.Calls.Expectations.{soonest}
use Rattle.llrp_live.proofs.expectations.soonest.Given as goal

abbrev pub invariant-loop-expectation : goal.invariant-loop-expectation
invariant-loop-expectation l = sooner l.next (soonest (drop l.expectation-index l.awaited)) ≡ soonest l.awaited
