use Rattle.std.proofs.Common.{◌≡◌, ◌+◌, ◌≤◌, drop, length}
use Rattle.llrp_operations.specs.Calls.Results.{say_clearly}
use Rattle.llrp_operations.proofs.results.say_clearly.Given as goal

-- the parameters that are left have to say the rest
abbrev pub invariant-loop-node : goal.invariant-loop-node
invariant-loop-node l =
    (say_clearly 1 l.fn.operations l.fn.nodes ≡ say_clearly (l.done + 1) (drop l.done l.fn.operations) (drop l.node-index l.fn.nodes)) × (l.done ≤ length l.fn.operations)
