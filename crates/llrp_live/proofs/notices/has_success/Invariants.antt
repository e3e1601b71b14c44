use Rattle.std.proofs.Common.{◌≡◌, drop}
use Rattle.llrp_live.specs.Calls.Notices.{has_success}
use Rattle.llrp_live.proofs.notices.has_success.Given as goal

abbrev pub invariant-loop-node : goal.invariant-loop-node
invariant-loop-node l = has_success l.fn.nodes ≡ has_success (drop l.node-index l.fn.nodes)
