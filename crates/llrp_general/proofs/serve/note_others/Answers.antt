use Rattle.std.proofs.lemmas.Result.{err_from_is_err_and}
use Rattle.llrp_general.proofs.ServeLemmas.{no_other, not_noted, one_noted}
use Rattle.llrp_general.proofs.serve.note_others.Goals as goal

pub returns-then-not-one_came-clause-notes : goal.returns-then-not-one_came-clause-notes
returns-then-not-one_came-clause-notes g c = no_other _ _ _ _ _ c.args.server.now c.notes.server c.notes.invariant c.one_came.result c.one_came.ensures c.if-not-one_came.true

pub returns-in_err-note_other-clause-notes : goal.returns-in_err-note_other-clause-notes
returns-in_err-note_other-clause-notes g c =
    let p = err_from_is_err_and c.from_residual.result c.from_residual.ensures.1 in
    rw (p.1, p.2) (not_noted _ _ _ _ _ c.args.server.now c.notes.server c.notes.invariant c.one_came.result c.one_came.ensures (g.W.Sink.log c.note_other.new.w) c.note_other.new.server c.if-not-one_came.false c.in_err-note_other.field-0.0 c.in_err-note_other.ensures.notes)

pub notes-preserved : goal.notes-preserved
notes-preserved g c = one_noted _ _ _ _ _ c.args.server.now c.notes.server c.notes.invariant c.one_came.result c.one_came.ensures (g.W.Sink.log c.note_other.new.w) c.note_other.new.server c.if-not-one_came.false c.in_ok-note_other.ensures.can c.in_ok-note_other.ensures.notes
