use Rattle.std.proofs.Common.{[], refl}
use Rattle.std.proofs.lemmas.Result.{err_from_is_err_and}
use Rattle.llrp_stream.proofs.WritingLemmas.{wrote_nothing}
use Rattle.llrp_endpoints.proofs.SendingLemmas.{frames_none}
use Rattle.llrp_general.proofs.ServeLemmas.{can_then, ran_out, went_on}
use Rattle.llrp_general.proofs.serve.begin.Goals as goal

pub returns-in_err-start-clause-begins : goal.returns-in_err-start-clause-begins
returns-in_err-start-clause-begins g c =
    let p = err_from_is_err_and c.from_residual.result c.from_residual.ensures.1 in
    rw (p.1, p.2) (λ s fresh. ran_out s 0 [] c.start.new.self _ _ _ [] [] frames_none (wrote_nothing _) c.new-sent.result.items c.start.new.sent.items c.in_err-start.field-0.0 (c.in_err-start.ensures s fresh) refl)

pub returns-clause-begins : goal.returns-clause-begins
returns-clause-begins g c = λ s fresh.
    went_on s 0 [] c.start.new.self _ _ _ [] [] frames_none (wrote_nothing _) c.new-sent.result.items c.start.new.sent.items c.new-sent.ensures.items c.say.result (c.in_ok-start.ensures s fresh) (rw c.as_slice.ensures.value at c.say.ensures)

pub returns-clause-can : goal.returns-clause-can
returns-clause-can g c = can_then _ _ _ c.say.result c.requires c.say.ensures
