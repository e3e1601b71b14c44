use Rattle.std.proofs.Common.{◌≡◌, ◌++◌, drop}
use Rattle.llrp_operations.specs.Calls.Changes.{checks}
use Rattle.llrp_operations.proofs.change.checks_of.Given as goal

abbrev pub invariant-loop-operation : goal.invariant-loop-operation
invariant-loop-operation l = checks l.fn.operations ≡ l.all.items ++ checks (drop l.operation-index l.fn.operations)
