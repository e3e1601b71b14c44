use Rattle.std.proofs.Common.{◌++◌, ◌∷◌, [], ℕ, List, refl, sym, ap, ◌∙◌, arith, append_assoc, length, length-append, subst, Err}
use Rattle.std.proofs.lemmas.List.{append-nil}
use Rattle.std.proofs.lemmas.Result.{err_from_is_err_and}
use Rattle.llrp_json_read.specs.Private.Lines.{Stands, Takes}
use Rattle.llrp_json_read.proofs.LineRuns.{ended_after, line_refused, none_appended, piece_ends, took_line, too_long, went_on}
use Rattle.llrp_json_read.proofs.run.Lines.take.Goals as goal

pub lines-init : goal.lines-init
lines-init c = record {
  taken = [];
  more = [];
  parts = refl;
  grown = sym (append-nil c.args.frames.now.items);
  stands = λ text bytes s. subst (λ (x : List ℕ). Stands c.args.set c.args.limit x c.args.self.now (bytes ++ [])) (sym (append-nil text)) (subst (λ (x : List ℕ). Stands c.args.set c.args.limit text c.args.self.now x) (sym (append-nil bytes)) s);
  number = omega arith;
  short = c.requires.short;
}

pub returns-in_err-go_on-clause-taken : goal.returns-in_err-go_on-clause-taken
returns-in_err-go_on-clause-taken c =
    let p = err_from_is_err_and c.from_residual.result c.from_residual.ensures.1 in
    let so = c.lines.invariant in
    rw (p.1, p.2) (λ text bytes s. (
      so.more,
      so.grown,
      subst (λ (x : List ℕ). Takes c.args.set c.args.limit x (bytes ++ so.more) c.go_on.new.self (Err c.in_err-go_on.field-0.0)) (piece_ends text so.taken c.args.piece.now c.lines.rest.now _ so.parts c.in-Some.ensures.1)
          (too_long c.args.set c.args.limit (text ++ so.taken) (bytes ++ so.more) c.in-Some.part.now (10 ∷ c.in-Some.after.now) c.lines.self c.go_on.new.self c.in_err-go_on.field-0.0 (so.stands text bytes s) c.in-Some.ensures.0 c.in_err-go_on.ensures.refused),
    ))

pub returns-in_err-end_line-clause-taken : goal.returns-in_err-end_line-clause-taken
returns-in_err-end_line-clause-taken c =
    let p = err_from_is_err_and c.from_residual-in_err-end_line.result c.from_residual-in_err-end_line.ensures.1 in
    let so = c.lines.invariant in
    let part = c.in-Some.part.now in
    let after = c.in-Some.after.now in
    let e = c.in_err-end_line.field-0.0 in
    let same = none_appended c.args.set c.args.limit _ _ _ _ e c.in_err-end_line.ensures.ended in
    rw (p.1, p.2) (λ text bytes s. (
      so.more,
      same ∙ so.grown,
      subst (λ (x : List ℕ). Takes c.args.set c.args.limit x (bytes ++ so.more) c.end_line.new.self (Err e)) (append_assoc (text ++ so.taken) part (10 ∷ after) ∙ piece_ends text so.taken c.args.piece.now c.lines.rest.now _ so.parts c.in-Some.ensures.1)
          (line_refused c.args.set c.args.limit ((text ++ so.taken) ++ part) (bytes ++ so.more) after _ _ c.go_on.new.self c.end_line.new.self e
          (went_on c.args.set c.args.limit (text ++ so.taken) (bytes ++ so.more) part c.lines.self c.go_on.new.self (so.stands text bytes s) c.in-Some.ensures.0 c.in_ok-go_on.ensures.line c.in_ok-go_on.ensures.number) c.in_ok-go_on.ensures.short c.in_err-end_line.ensures.ended),
    ))

pub lines-preserved : goal.lines-preserved
lines-preserved c =
    let so = c.lines.invariant in
    let part = c.in-Some.part.now in
    let after = c.in-Some.after.now in
    let (m, frame, says, is, grown) = c.in_ok-end_line.ensures.ended in
    record {
      taken = (so.taken ++ part) ++ 10 ∷ [];
      more = so.more ++ frame;
      parts = so.parts ∙ (ap (λ (x : List ℕ). so.taken ++ x) c.in-Some.ensures.1 ∙ (sym (append_assoc so.taken part (10 ∷ after)) ∙ sym (append_assoc (so.taken ++ part) (10 ∷ []) after)));
      grown = grown ∙ (ap (λ (x : List ℕ). x ++ frame) so.grown ∙ append_assoc c.args.frames.now.items so.more frame);
      stands = λ text bytes s. took_line c.args.set c.args.limit text so.taken part bytes so.more frame m c.lines.self c.go_on.new.self c.end_line.new.self (so.stands text bytes s) c.in-Some.ensures.0 c.in_ok-go_on.ensures.line c.in_ok-go_on.ensures.number c.in_ok-go_on.ensures.short says is c.in_ok-end_line.ensures.line c.in_ok-end_line.ensures.number;
      number = omega (arith, c.in_ok-end_line.ensures.number, c.in_ok-go_on.ensures.number, so.number, length-append (so.taken ++ part) (10 ∷ []), length-append so.taken part);
      short = omega (arith, ap length c.in_ok-end_line.ensures.line);
    }

pub returns-clause-taken : goal.returns-clause-taken
returns-clause-taken c =
    let so = c.lines.invariant in
    λ text bytes s. (so.more, so.grown, ended_after c.args.set c.args.limit text so.taken c.args.piece.now c.lines.rest.now (bytes ++ so.more) c.lines.self c.go_on-2.new.self c.go_on-2.result so.parts (so.stands text bytes s) c.in_default.ensures c.go_on-2.ensures.line c.go_on-2.ensures.number c.go_on-2.ensures.refused)
