use Rattle.std.proofs.Common.{rules, ◌+◌, ◌++◌}
use Rattle.std.proofs.lemmas.Result.{err_from_is_err_and}
use Rattle.llrp_listing.specs.Copying.{ReadAll}
use Rattle.llrp_listing.specs.Calls.Copying.{Given}
use Rattle.llrp_general.proofs.ServeLemmas.{at_the_end, first_failed, piece_closed, piece_failed, piece_open, read_none, start_failed, then_failed}
use Rattle.llrp_general.proofs.serve.serve.Goals as goal

pub returns-in_err-begin : goal.returns-in_err-begin
returns-in_err-begin g c =
    let p = err_from_is_err_and c.from_residual.result c.from_residual.ensures.1 in
    rw (p.1, p.2) (start_failed _ _ _ _ c.args.server.now c.begin.new.server c.in_err-begin.field-0.0 c.requires.none c.in_err-begin.ensures.begins)

pub returns-in_err-note_others : goal.returns-in_err-note_others
returns-in_err-note_others g c =
    let p = err_from_is_err_and c.from_residual-in_err-note_others.result c.from_residual-in_err-note_others.ensures.1 in
    rw (p.1, p.2) (first_failed _ _ _ _ c.args.server.now c.begin.new.server _ _ c.note_others.new.server c.requires.none c.in_ok-begin.ensures.begins c.in_err-note_others.field-0.0 c.in_err-note_others.ensures.notes)

pub returns-in_err-piece : goal.returns-in_err-piece
returns-in_err-piece g c =
    let f = c.loop-piece.invariant in
    let p = err_from_is_err_and c.from_residual-in_err-piece.result c.from_residual-in_err-piece.ensures.1 in
    rw (p.1, p.2) (λ s fresh. read_none _ _ _ _ _ _ c.args.server.now c.loop-piece.server f s fresh _ _ (c.in_err-piece.ensures.next _ _ f.given))

pub returns : goal.returns
returns g c =
    let f = c.loop-piece.invariant in
    let all : ReadAll (g.R.Source.log c.args.r.now) (g.R.Source.log c.next.new.r) f.bytes = search rules in
    λ s fresh. at_the_end _ _ _ _ _ _ c.args.server.now c.loop-piece.server f s fresh _ c.finish.result all c.finish.ensures

pub returns-in_err-take_piece : goal.returns-in_err-take_piece
returns-in_err-take_piece g c =
    let f = c.loop-piece.invariant in
    let p = err_from_is_err_and c.from_residual-in_err-take_piece.result c.from_residual-in_err-take_piece.ensures.1 in
    let given : Given (g.R.Source.log c.args.r.now) (g.R.Source.log c.next.new.r) (c.loop-piece.pieces.reads + 1) (f.bytes ++ c.in-Some.piece.now) = rw c.in-Some.is at (c.in_ok-piece.ensures.next _ _ f.given) in
    rw (p.1, p.2) (λ s fresh. piece_failed _ _ _ _ _ _ c.args.server.now c.loop-piece.server f _ _ _ c.in-Some.piece.now c.take_piece.new.server given s fresh c.in_err-take_piece.field-0.0 c.in_err-take_piece.ensures.takes)

pub returns-then-branch : goal.returns-then-branch
returns-then-branch g c =
    let f = c.loop-piece.invariant in
    let given : Given (g.R.Source.log c.args.r.now) (g.R.Source.log c.next.new.r) (c.loop-piece.pieces.reads + 1) (f.bytes ++ c.in-Some.piece.now) = rw c.in-Some.is at (c.in_ok-piece.ensures.next _ _ f.given) in
    λ s fresh. piece_closed _ _ _ _ _ _ c.args.server.now c.loop-piece.server f _ _ _ c.in-Some.piece.now c.take_piece.new.server given s fresh c.in_ok-take_piece.field-0 c.if-branch.true c.in_ok-take_piece.ensures.takes

pub returns-in_err-note_others-2 : goal.returns-in_err-note_others-2
returns-in_err-note_others-2 g c =
    let f = c.loop-piece.invariant in
    let p = err_from_is_err_and c.from_residual-in_err-note_others-2.result c.from_residual-in_err-note_others-2.ensures.1 in
    let given : Given (g.R.Source.log c.args.r.now) (g.R.Source.log c.next.new.r) (c.loop-piece.pieces.reads + 1) (f.bytes ++ c.in-Some.piece.now) = rw c.in-Some.is at (c.in_ok-piece.ensures.next _ _ f.given) in
    rw (p.1, p.2) (λ s fresh.
    then_failed _ _ _ _ _ _ c.args.server.now c.loop-piece.server f _ _ _ c.in-Some.piece.now c.take_piece.new.server given _ _ c.note_others-in-Some.new.server c.in_ok-take_piece.field-0 c.if-branch.false c.in_ok-take_piece.ensures.takes s fresh c.in_err-note_others-2.field-0.0 c.in_err-note_others-2.ensures.notes)

pub loop-piece-preserved : goal.loop-piece-preserved
loop-piece-preserved g c =
    let f = c.loop-piece.invariant in
    piece_open _ _ _ _ _ _ c.args.server.now c.loop-piece.server f _ _ _ c.in-Some.piece.now c.take_piece.new.server (search rules) _ _ c.note_others-in-Some.new.server c.in_ok-take_piece.field-0 c.if-branch.false c.in_ok-take_piece.ensures.takes c.in_ok-note_others-2.ensures.can
    c.in_ok-note_others-2.ensures.notes
