use Rattle.std.proofs.Common.{refl}
use Rattle.std.proofs.lemmas.Result.{err_from_is_err_and}
use Rattle.llrp_general.proofs.ServeLemmas.{can_then, ran_out, went_on}
use Rattle.llrp_general.proofs.serve.note_other.Goals as goal

pub returns-in_err-note_other-clause-notes : goal.returns-in_err-note_other-clause-notes
returns-in_err-note_other-clause-notes g c =
    let p = err_from_is_err_and c.from_residual.result c.from_residual.ensures.1 in
    rw (p.1, p.2) (λ s others bytes w0 h.
    ran_out s _ bytes c.note_other.new.self _ _ _ h.messages h.text h.frames h.wrote c.new-sent.result.items c.note_other.new.sent.items c.in_err-note_other.field-0.0 (c.in_err-note_other.ensures s others bytes h.messages h.stands) refl)

pub returns-clause-notes : goal.returns-clause-notes
returns-clause-notes g c = λ s others bytes w0 h.
    went_on s _ bytes c.note_other.new.self _ _ _ h.messages h.text h.frames h.wrote c.new-sent.result.items c.note_other.new.sent.items c.new-sent.ensures.items c.say.result (c.in_ok-note_other.ensures s others bytes h.messages h.stands) (rw c.as_slice.ensures.value at c.say.ensures)

pub returns-clause-can : goal.returns-clause-can
returns-clause-can g c = can_then _ _ _ c.say.result c.requires c.say.ensures
