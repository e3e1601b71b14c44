use Rattle.std.proofs.Common.{◌≡◌, map, take}
use Rattle.llrp_access.specs.Calls.Operations.{meaning, outcomes, after_all}
use Rattle.llrp_access.proofs.operation.perform.Given as goal

-- the operations before were done
abbrev pub invariant-loop-operation : goal.invariant-loop-operation
invariant-loop-operation l = record {
  results : map meaning l.results.items ≡ outcomes (take l.operation-index l.operations) l.fn.memory;
  memory : l.memory ≡ after_all (take l.operation-index l.operations) l.fn.memory;
}
