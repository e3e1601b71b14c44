use Rattle.std.proofs.Common.{◌≡◌, ◌++◌, ℕ, List, length}
use Rattle.llrp.specs.Calls.Refusals.{Hears}
use Rattle.llrp.proofs.faults.FaultFinder.take.Given as goal

abbrev pub invariant-loop-self : goal.invariant-loop-self
invariant-loop-self l = record {
  done : List ℕ;
  parts : l.piece ≡ done ++ l.rest;
  went : Hears done l.fn.self l.self;
}

abbrev pub decreases-loop-self : goal.decreases-loop-self
decreases-loop-self l = length l.rest
