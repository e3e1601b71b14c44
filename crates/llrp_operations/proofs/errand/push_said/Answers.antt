use Rattle.std.proofs.Common.{◌∙◌, List, [], ◌∷◌, ◌++◌, ap, append_assoc}
use Rattle.std.proofs.lemmas.Result.{err_from_is_err_and}
use Rattle.llrp_operations.specs.declared.operation.Operation.{Operation}
use Rattle.llrp_operations.proofs.ErrandLemmas.{said_more, text_refused}
use Rattle.llrp_operations.proofs.errand.push_said.Goals as goal

pub loop-text-preserved : goal.loop-text-preserved
loop-text-preserved c =
    let i = c.loop-text.invariant in
    let one = c.in_ok-push_operation.ensures.said in
    record {
      more = i.more ++ (one.0 ∷ []);
      are = said_more c.args.option c.args.texts.now c.loop-text.text-index _ i.more one.0 c.loop-text-test.true i.are one.1;
      operations = one.2 ∙ ap (λ (l : List Operation). l ++ (one.0 ∷ [])) i.operations ∙ append_assoc c.args.operations.now.items i.more (one.0 ∷ []);
    }

pub returns-in_err-push_operation-clause-refused : goal.returns-in_err-push_operation-clause-refused
returns-in_err-push_operation-clause-refused c =
    let i = c.loop-text.invariant in
    let p = err_from_is_err_and c.from_residual.result c.from_residual.ensures.1 in
    rw (p.1, p.2) (text_refused c.args.option c.args.texts.now c.loop-text.text-index _ i.more c.in_err-push_operation.field-0.0 c.loop-text-test.true i.are c.in_err-push_operation.ensures.refused)
