use Rattle.std.proofs.Common.{refl}
use Rattle.std.proofs.lemmas.Result.{err_from_is_err_and}
use Rattle.llrp_endpoints.proofs.ServingSteps.{behind, does, does_some}
use Rattle.llrp_endpoints.proofs.serving.scripted.ScriptedReader.happen_due.Goals as goal

pub returns-in_err-self-clause-err : goal.returns-in_err-self-clause-err
returns-in_err-self-clause-err c =
    let p = err_from_is_err_and c.from_residual.result c.from_residual.ensures.1 in
    let is = behind c.args.self.now.done c.entries.result.now c.args.self.now.script c.entries.ensures.entries in
    rw (p.1, p.2) (λ count entries h t. does_some count entries c.args.self.now _ c.due-count.result _ _ _ is c.due-count.ensures c.in_err-self.ensures.err h t)

pub returns-clause-ok : goal.returns-clause-ok
returns-clause-ok c = λ count entries h t. does count entries c.args.self.now _ _ c.due-count.result _ _ (behind c.args.self.now.done c.entries.result.now c.args.self.now.script c.entries.ensures.entries) c.due-count.ensures c.in_ok-self.ensures.ok refl refl c.in_ok-self.ensures.moment h t
