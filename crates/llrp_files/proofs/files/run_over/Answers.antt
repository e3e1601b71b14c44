use Rattle.std.proofs.Common.{◌∙◌, List, Some, ap, inl, inr, refl, sym, ℕ}
use Rattle.std.proofs.lemmas.Result.{err_from_is_err_and}
use Rattle.llrp_files.proofs.FilesLemmas.{did}
use Rattle.llrp_files.proofs.files.run_over.Goals as goal

pub returns-in_err-tell-in-Ok : goal.returns-in_err-tell-in-Ok
returns-in_err-tell-in-Ok g c =
    let p = err_from_is_err_and c.from_residual.result c.from_residual.ensures.1 in
    rw (p.1, p.2) (inr (_, _, did _ _ _ _ _ _ _ _ _ _ c.run_request.ensures.does c.run_request.ensures.segments c.new-told.ensures c.new.ensures.items (sym (ap (λ (x : List ℕ). Some x) c.as_slice.ensures.value ∙ c.into_inner.ensures)) _ c.in-Ok.is, c.in_err-tell-in-Ok.ensures))

pub returns-in_ok-tell-in-Ok : goal.returns-in_ok-tell-in-Ok
returns-in_ok-tell-in-Ok g c = (_, did _ _ _ _ _ _ _ _ _ _ c.run_request.ensures.does c.run_request.ensures.segments c.new-told.ensures c.new.ensures.items (sym (ap (λ (x : List ℕ). Some x) c.as_slice.ensures.value ∙ c.into_inner.ensures)) _ c.in-Ok.is, c.in_ok-tell-in-Ok.ensures)

pub returns-in-Err : goal.returns-in-Err
returns-in-Err g c = inl (refl, refl, _, _, did _ _ _ _ _ _ _ _ _ _ c.run_request.ensures.does c.run_request.ensures.segments c.new-told.ensures c.new.ensures.items refl _ c.in-Err.is)
