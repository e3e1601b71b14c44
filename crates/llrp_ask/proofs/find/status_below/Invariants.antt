use Rattle.std.proofs.Common.{◌≡◌, drop}
use Rattle.llrp_ask.specs.Calls.Answers.{status_below as the_status}
use Rattle.llrp_ask.proofs.find.status_below.Given as goal

abbrev pub invariant-loop-node : goal.invariant-loop-node
invariant-loop-node l = the_status l.kind l.fn.nodes ≡ the_status l.kind (drop l.node-index l.fn.nodes)
