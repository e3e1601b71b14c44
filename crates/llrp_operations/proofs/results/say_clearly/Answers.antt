use Rattle.std.proofs.Common.{arith}
use Rattle.llrp_operations.proofs.ResultLemmas.{clear_at_end}
use Rattle.llrp_operations.proofs.results.say_clearly.Goals as goal

pub returns : goal.returns
returns c = clear_at_end c.args.operations.now c.args.nodes.now c.loop-node.done c.loop-node.node-index (omega (arith, c.loop-node-test.false)) c.loop-node.invariant.1 c.loop-node.invariant.0
