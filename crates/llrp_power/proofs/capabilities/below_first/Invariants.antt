use Rattle.std.proofs.Common.{◌≡◌, drop}
use Rattle.llrp_power.specs.Calls.Capabilities.{below_first as the_below}
use Rattle.llrp_power.proofs.capabilities.below_first.Given as goal

abbrev pub invariant-loop-node : goal.invariant-loop-node
invariant-loop-node l = the_below l.kind l.fn.nodes ≡ the_below l.kind (drop l.node-index l.fn.nodes)
