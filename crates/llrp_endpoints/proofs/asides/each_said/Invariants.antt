use Rattle.std.proofs.Common.{◌≡◌, map}
use Rattle.std.specs.Prelude.{Some}
use Rattle.llrp_endpoints.specs.Asides.{instead}
use Rattle.llrp_endpoints.proofs.asides.each_said.Given as goal

abbrev pub invariant-loop-message : goal.invariant-loop-message
invariant-loop-message l = l.said.items ≡ map (instead (Some l.whole)) l.yielded
