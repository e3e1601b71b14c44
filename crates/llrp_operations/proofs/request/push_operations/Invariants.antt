use Rattle.std.proofs.Common.{◌≡◌, ◌+◌, ◌++◌, drop}
use Rattle.llrp_operations.specs.Calls.Operations.{operation_specs}
use Rattle.llrp_operations.proofs.request.push_operations.Given as goal

abbrev pub invariant-loop-i : goal.invariant-loop-i
invariant-loop-i l =
    l.fn.nodes.items ++ operation_specs 1 l.password l.fn.all ≡ l.nodes.items ++ operation_specs (l.i + 1) l.password (drop l.i l.fn.all)
