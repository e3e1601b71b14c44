use Rattle.std.proofs.lemmas.Result.{err_from_is_err_and}
use Rattle.llrp_operations.proofs.TurnLemmas.{fails, talks}
use Rattle.llrp_operations.proofs.talk.operate.Goals as goal

pub returns-in_err-converse-clause-failed : goal.returns-in_err-converse-clause-failed
returns-in_err-converse-clause-failed g c =
    let p = err_from_is_err_and c.from_residual.result c.from_residual.ensures.1 in
    rw (p.1, p.2) (fails c.args.request c.new-conversation.result _ _ _ _ c.in_err-converse.field-0.0 c.new-conversation.ensures c.in_err-converse.ensures.failed)

pub returns-clause-talks : goal.returns-clause-talks
returns-clause-talks g c = talks c.args.request c.new-conversation.result c.converse.new.conversation _ _ _ _ c.end.result c.new-conversation.ensures c.in_ok-converse.ensures.on c.end.ensures
