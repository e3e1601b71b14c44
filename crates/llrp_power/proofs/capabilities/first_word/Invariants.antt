use Rattle.std.proofs.Common.{◌≡◌, drop}
use Rattle.llrp_power.specs.Calls.Capabilities.{first_word as the_word}
use Rattle.llrp_power.proofs.capabilities.first_word.Given as goal

abbrev pub invariant-loop-node : goal.invariant-loop-node
invariant-loop-node l = the_word l.kind l.fn.nodes ≡ the_word l.kind (drop l.node-index l.fn.nodes)
