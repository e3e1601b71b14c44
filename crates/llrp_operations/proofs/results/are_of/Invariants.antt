use Rattle.std.proofs.Common.{◌≡◌, drop}
use Rattle.llrp_operations.specs.Calls.Results.{are_of}
use Rattle.llrp_operations.proofs.results.are_of.Given as goal

abbrev pub invariant-loop-node : goal.invariant-loop-node
invariant-loop-node l = are_of l.id l.fn.nodes ≡ are_of l.id (drop l.node-index l.fn.nodes)
