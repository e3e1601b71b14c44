use Rattle.std.proofs.Common.{◌≡◌, drop}
use Rattle.llrp_ask.specs.Calls.Answers.{attempt_in as the_attempt}
use Rattle.llrp_ask.proofs.find.attempt_in.Given as goal

abbrev pub invariant-loop-node : goal.invariant-loop-node
invariant-loop-node l = the_attempt l.fn.nodes ≡ the_attempt (drop l.node-index l.fn.nodes)
