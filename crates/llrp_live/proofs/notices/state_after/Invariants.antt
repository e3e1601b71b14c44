use Rattle.std.proofs.Common.{◌≡◌, drop}
use Rattle.llrp_live.specs.Calls.Notices.{state_after}
use Rattle.llrp_live.proofs.notices.state_after.Given as goal

abbrev pub invariant-loop-node : goal.invariant-loop-node
invariant-loop-node l = state_after l.event l.before l.nodes ≡ state_after l.event l.state (drop l.node-index l.nodes)
