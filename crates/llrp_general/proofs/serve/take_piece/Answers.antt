use Rattle.std.proofs.Common.{List, Err, refl, subst}
use Rattle.std.proofs.lemmas.Result.{err_from_is_err_and}
use Rattle.llrp_tree.specs.Tree.{MessageTree}
use Rattle.llrp_general.specs.Private.Standing.{Speaks}
use Rattle.llrp_general.proofs.ServeLemmas.{can_after, ran_out, spoken, unspoken}
use Rattle.llrp_general.proofs.serve.take_piece.Goals as goal

pub returns-in_err-going-clause-takes : goal.returns-in_err-going-clause-takes
returns-in_err-going-clause-takes g c =
    let p = err_from_is_err_and c.from_residual.result c.from_residual.ensures.1 in
    rw (p.1, p.2) (λ s others bytes w0 h.
    ran_out s others _ c.feed.new.self _ _ _ h.messages h.text h.frames h.wrote c.new-sent.result.items c.feed.new.sent.items c.in_err-going.field-0.0 (c.in_err-going.ensures s others bytes h.messages h.stands) refl)

pub returns-in_err-say-clause-takes : goal.returns-in_err-say-clause-takes
returns-in_err-say-clause-takes g c =
    let p = err_from_is_err_and c.from_residual-in_err-say.result c.from_residual-in_err-say.ensures.1 in
    rw (p.1, p.2) (λ s others bytes w0 h.
    unspoken s others _ c.feed.new.self _ _ _ h.messages h.text h.frames h.wrote c.new-sent.result.items c.feed.new.sent.items c.new-sent.ensures.items c.in_ok-going.going (c.in_ok-going.ensures s others bytes h.messages h.stands) c.in_err-say.field-0.0
    (subst (λ (x : List MessageTree). Speaks x (g.W.Sink.log c.args.w.now) (g.W.Sink.log c.say.new.w) (Err c.in_err-say.field-0.0)) c.as_slice.ensures.value c.in_err-say.ensures))

pub returns-clause-takes : goal.returns-clause-takes
returns-clause-takes g c = rw c.answer_of.ensures (λ s others bytes w0 h.
    spoken s others _ c.feed.new.self _ _ _ h.messages h.text h.frames h.wrote c.new-sent.result.items c.feed.new.sent.items c.new-sent.ensures.items c.in_ok-going.going (c.in_ok-going.ensures s others bytes h.messages h.stands) (rw c.as_slice.ensures.value at c.in_ok-say.ensures))

pub returns-clause-can : goal.returns-clause-can
returns-clause-can g c = can_after _ _ _ c.answer_of.result c.requires c.in_ok-say.ensures
