use Rattle.std.proofs.Common.{◌≡◌, drop}
use Rattle.llrp_live.specs.Calls.Starts.{starts_below}
use Rattle.llrp_live.proofs.starts.starts_below.Given as goal

abbrev pub invariant-loop-node : goal.invariant-loop-node
invariant-loop-node l = starts_below l.fn.nodes ≡ starts_below (drop l.node-index l.fn.nodes)
