use Rattle.std.proofs.Common.{◌≡◌, ◌∙◌, ◌++◌, ◌+◌, List, ℕ, rules, subst}
use Rattle.std.proofs.lemmas.Result.{err_from_is_err_and}
use Rattle.llrp_listing.specs.Calls.Copying.{Given}
use Rattle.llrp_listing.specs.Copying.{ReadAll}
use Rattle.llrp_endpoints.specs.Private.Script.{EndsBy, RefusesAfter, TakesPiece}
use Rattle.llrp_endpoints.proofs.ScriptReading.{piece_refused, piece_taken, read_ended, reading_none, unheld, unread}
use Rattle.llrp_endpoints.proofs.script.Script.read.Goals as goal

pub loop-line-init : goal.loop-line-init
loop-line-init g c = reading_none _ _ _ _ c.new-pieces.ensures c.new-entries.ensures.items c.new-line.ensures.items

pub loop-line-preserved : goal.loop-line-preserved
loop-line-preserved g c =
    let f = c.loop-line.invariant in
    let piece = c.in-Some.piece.now in
    let gathered : c.as_slice.result.now ≡ c.loop-line.line.items ++ piece = c.as_slice.ensures.value ∙ c.in_ok-extend_from_slice.ensures.items in
    let takes = subst (λ (x : List ℕ). TakesPiece c.loop-line.entries.items c.take_piece.new.entries.items x c.in_ok-line.line.items) gathered c.in_ok-line.ensures.taken in
    piece_taken _ _ _ f.text piece c.loop-line.entries.items c.take_piece.new.entries.items c.loop-line.line.items c.in_ok-line.line.items f.ends (search rules) takes

pub take_piece-requires : goal.take_piece-requires
take_piece-requires g c = c.loop-line.invariant.ends.begins.script.lawful

pub at_end-requires : goal.at_end-requires
at_end-requires g c = c.loop-line.invariant.ends.begins.script.lawful

pub returns-in_err-line : goal.returns-in_err-line
returns-in_err-line g c =
    let f = c.loop-line.invariant in
    let piece = c.in-Some.piece.now in
    let p = err_from_is_err_and c.from_residual-in_err-line.result c.from_residual-in_err-line.ensures.1 in
    let given : Given (g.R.Source.log c.args.r.now) (g.R.Source.log c.next.new.r) (c.loop-line.pieces.reads + 1) (f.text ++ piece) = rw c.in-Some.is at (c.in_ok-piece.ensures.next _ _ f.given) in
    let gathered : c.as_slice.result.now ≡ c.loop-line.line.items ++ piece = c.as_slice.ensures.value ∙ c.in_ok-extend_from_slice.ensures.items in
    let refuses = subst (λ (x : List ℕ). RefusesAfter c.loop-line.entries.items x c.in_err-line.field-0.0) gathered c.in_err-line.ensures.refused in
    rw (p.1, p.2) (piece_refused _ _ _ f.text piece c.loop-line.entries.items c.loop-line.line.items c.in_err-line.field-0.0 f.ends given refuses)

pub returns-in_err-extend_from_slice : goal.returns-in_err-extend_from_slice
returns-in_err-extend_from_slice g c =
    let f = c.loop-line.invariant in
    let p = err_from_is_err_and c.from_residual-in_err-extend_from_slice.result c.from_residual-in_err-extend_from_slice.ensures.1 in
    let given : Given (g.R.Source.log c.args.r.now) (g.R.Source.log c.next.new.r) (c.loop-line.pieces.reads + 1) (f.text ++ c.in-Some.piece.now) = rw c.in-Some.is at (c.in_ok-piece.ensures.next _ _ f.given) in
    rw (p.1, p.2) (unheld _ _ _ _ given)

pub returns-in_err-piece : goal.returns-in_err-piece
returns-in_err-piece g c =
    let f = c.loop-line.invariant in
    let p = err_from_is_err_and c.from_residual.result c.from_residual.ensures.1 in
    rw (p.1, p.2) (unread _ _ f.text c.loop-line.entries.items c.loop-line.line.items c.in_err-piece.field-0.0 f.ends (c.in_err-piece.ensures.next _ _ f.given))

pub returns : goal.returns
returns g c =
    let f = c.loop-line.invariant in
    let all : ReadAll (g.R.Source.log c.args.r.now) (g.R.Source.log c.next.new.r) f.text = search rules in
    let ends = subst (λ (x : List ℕ). EndsBy c.loop-line.entries.items x c.at_end.result) c.as_slice-2.ensures.value c.at_end.ensures in
    read_ended _ _ f.text c.loop-line.entries.items c.loop-line.line.items c.at_end.result f.ends all ends
