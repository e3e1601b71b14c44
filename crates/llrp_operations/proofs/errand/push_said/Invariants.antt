use Rattle.std.proofs.Common.{◌≡◌, List, ◌++◌, take}
use Rattle.llrp_operations.specs.declared.operation.Operation.{Operation}
use Rattle.llrp_operations.specs.Calls.Errands.{AreSaid}
use Rattle.llrp_operations.proofs.errand.push_said.Given as goal

-- what was added is what the texts so far say
abbrev pub invariant-loop-text : goal.invariant-loop-text
invariant-loop-text l = record {
  more : List Operation;
  are : AreSaid l.option (take l.text-index l.texts) more;
  operations : l.operations.items ≡ l.fn.operations.items ++ more;
}
