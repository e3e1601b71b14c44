use Rattle.std.proofs.Common.{◌≡◌, ◌++◌, ◌∙◌, List, ℕ, ap}
use Rattle.std.proofs.lemmas.Result.{err_from_is_err_and}
use Rattle.llrp_listing.proofs.EpcLemmas.{front_written}
use Rattle.llrp_listing.proofs.epc.run_epc.Goals as goal

pub returns-in_err-write_all : goal.returns-in_err-write_all
returns-in_err-write_all g c =
    let p = err_from_is_err_and c.from_residual-in_err-write_all.result c.from_residual-in_err-write_all.ensures.1 in
    let (answer, are, more) = c.in_ok-verdict.ensures in
    let all : c.push_answer.new.lines.items ≡ answer = more ∙ ap (λ (z : List ℕ). z ++ answer) c.new-lines.ensures.items in
    rw (p.1, p.2) (front_written c.args.text.now answer c.in_ok-verdict.verdict _ _ c.in_err-write_all.field-0.0 are (rw (c.as_slice.ensures.value ∙ all) at c.in_err-write_all.ensures))
