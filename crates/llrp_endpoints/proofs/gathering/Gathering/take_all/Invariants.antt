use Rattle.std.proofs.Common.{◌≡◌, ◌++◌, ℕ, List, length, Ok, false}
use Rattle.llrp_endpoints.specs.Gathering.{Beginning, Course}
use Rattle.llrp_endpoints.specs.Calls.GatheringStands.{StandsFrom, FeedsFrom}
use Rattle.llrp_endpoints.proofs.gathering.Gathering.take_all.Given as goal

abbrev pub invariant-loop-rest : goal.invariant-loop-rest
invariant-loop-rest l = record {
  done : List ℕ;
  parts : l.piece ≡ done ++ l.rest;
  went : (b : Beginning) (bytes rest : List ℕ) (c : Course) → StandsFrom b bytes rest c l.fn.self → FeedsFrom b (bytes ++ done) c l.self l.fn.out.items l.out.items l.fn.report.items l.report.items (Ok false);
}

abbrev pub decreases-loop-rest : goal.decreases-loop-rest
decreases-loop-rest l = length l.rest
