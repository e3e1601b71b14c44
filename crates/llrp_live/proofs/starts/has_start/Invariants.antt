use Rattle.std.proofs.Common.{◌≡◌, drop}
use Rattle.llrp_live.specs.Calls.Starts.{has_start}
use Rattle.llrp_live.proofs.starts.has_start.Given as goal

abbrev pub invariant-loop-node : goal.invariant-loop-node
invariant-loop-node l = has_start l.fn.nodes ≡ has_start (drop l.node-index l.fn.nodes)
