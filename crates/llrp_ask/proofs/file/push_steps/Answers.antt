use Rattle.std.proofs.Common.{◌++◌, ◌∷◌, [], List, ap, ◌∙◌, append_assoc}
use Rattle.llrp_ask.specs.declared.step.Step.{Step}
use Rattle.llrp_ask.proofs.FileLemmas.{one_more_step}
use Rattle.llrp_ask.proofs.file.push_steps.Goals as goal

pub loop-message-preserved : goal.loop-message-preserved
loop-message-preserved c =
    let i = c.loop-message.invariant in
    let step = c.in_ok-step_of.field-0 in
    record {
      more = i.more ++ step ∷ [];
      are = one_more_step c.args.messages.now c.loop-message.message-index c.message-item.result i.more step c.loop-message-test.true c.message-item.is i.are c.in_ok-step_of.ensures.step;
      steps = c.in_ok-push.ensures.items ∙ ap (λ (x : List Step). x ++ step ∷ []) i.steps ∙ append_assoc c.args.steps.now.items i.more (step ∷ []);
    }
