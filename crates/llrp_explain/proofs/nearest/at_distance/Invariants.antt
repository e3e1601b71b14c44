use Rattle.std.proofs.Common.{◌≡◌, take}
use Rattle.llrp_explain.specs.Calls.Nearest.{at_distance}
use Rattle.llrp_explain.proofs.nearest.at_distance.Given as goal

abbrev pub invariant-loop-kind : goal.invariant-loop-kind
invariant-loop-kind l = l.found.items ≡ at_distance l.name l.count (take l.kind-index l.kinds)
