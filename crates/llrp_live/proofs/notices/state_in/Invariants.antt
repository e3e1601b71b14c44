use Rattle.std.proofs.Common.{◌≡◌, drop}
use Rattle.llrp_live.specs.Calls.Notices.{state_in}
use Rattle.llrp_live.proofs.notices.state_in.Given as goal

abbrev pub invariant-loop-node : goal.invariant-loop-node
invariant-loop-node l = state_in l.event l.before l.nodes ≡ state_in l.event l.state (drop l.node-index l.nodes)
