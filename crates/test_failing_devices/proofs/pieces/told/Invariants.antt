use Rattle.std.proofs.Common.{◌≢◌}
use Rattle.llrp_endpoints.specs.declared.serving.Phase.TheVariants.{New}
use Rattle.test_failing_devices.proofs.pieces.told.Given as goal

abbrev pub invariant-loop : goal.invariant-loop
invariant-loop l = l.serving.phase ≢ New
