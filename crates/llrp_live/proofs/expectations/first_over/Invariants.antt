use Rattle.std.proofs.Common.{◌≡◌, drop}
use Rattle.llrp_live.specs.Calls.Expectations.{first_over}
use Rattle.llrp_live.proofs.expectations.first_over.Given as goal

abbrev pub invariant-loop-expectation : goal.invariant-loop-expectation
invariant-loop-expectation l = first_over l.now (drop l.expectation-index l.awaited) ≡ first_over l.now l.awaited
