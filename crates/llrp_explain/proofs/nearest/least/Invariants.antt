use Rattle.std.proofs.Common.{◌≡◌, take}
use Rattle.llrp_explain.specs.Calls.Nearest.{least}
use Rattle.llrp_explain.proofs.nearest.least.Given as goal

abbrev pub invariant-loop-kind : goal.invariant-loop-kind
invariant-loop-kind l = l.least ≡ least l.name (take l.kind-index l.kinds)
