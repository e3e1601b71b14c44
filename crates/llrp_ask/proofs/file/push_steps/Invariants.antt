use Rattle.std.proofs.Common.{◌≡◌, ◌++◌, List, take}
use Rattle.std.specs.List.{AllZip}
use Rattle.llrp_ask.specs.Calls.File.{IsStepOf}
use Rattle.llrp_ask.specs.declared.step.Step.{Step}
use Rattle.llrp_ask.proofs.file.push_steps.Given as goal

abbrev pub invariant-loop-message : goal.invariant-loop-message
invariant-loop-message l = record {
  more : List Step;
  are : AllZip IsStepOf (take l.message-index l.messages) more;
  steps : l.steps.items ≡ l.fn.steps.items ++ more;
}
