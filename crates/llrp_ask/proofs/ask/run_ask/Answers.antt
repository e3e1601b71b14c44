use Rattle.std.proofs.Common.{[], ap, ◌∙◌}
use Rattle.std.proofs.lemmas.Result.{err_from_is_err_and}
use Rattle.llrp_ask.specs.declared.asking.Asking.{Asking}
use Rattle.llrp_ask.specs.Calls.Courses.{course_of}
use Rattle.llrp_ask.proofs.AskLemmas.{asked, asks_failed, asks_of}
use Rattle.llrp_ask.proofs.ask.run_ask.Goals as goal

pub returns-in_err-converse : goal.returns-in_err-converse
returns-in_err-converse g c =
    let p = err_from_is_err_and c.from_residual.result c.from_residual.ensures.1 in
    rw (p.1, p.2) (asks_failed c.args.manner c.args.steps.now _ _ _ _ _ _ c.in_err-converse.field-0.0 c.in_err-converse.ensures.err)

pub returns-in_err-verdict : goal.returns-in_err-verdict
returns-in_err-verdict g c =
    let p = err_from_is_err_and c.from_residual-in_err-verdict.result c.from_residual-in_err-verdict.ensures.1 in
    rw (p.1, p.2) (asks_failed c.args.manner c.args.steps.now _ _ _ _ _ _ c.in_err-verdict.field-0.0 c.in_err-verdict.ensures.err)

pub returns : goal.returns
returns g c =
    asks_of c.args.manner c.args.steps.now _ _ _ _ _ _ c.outcome_of.result (asked c.args.manner c.args.steps.now c.new-conversation.result c.converse.new.conversation _ _ _ _ _ _ _ c.in_ok-verdict.verdict c.outcome_of.result
    (ap (λ (a : Asking). course_of a []) c.new-conversation.ensures.asking ∙ c.new-asking.ensures) c.new-conversation.ensures.form c.new-conversation.ensures.held c.new-conversation.ensures.lawful c.in_ok-converse.ensures.done c.in_ok-verdict.ensures.ok c.outcome_of.ensures)
