use Rattle.std.proofs.Common.{◌≡◌, ◌++◌, ◌∙◌, List, ℕ, ap}
use Rattle.std.proofs.lemmas.Result.{err_from_is_err_and}
use Rattle.llrp_keys.specs.AllSchemes.{ArePrintedInAll}
use Rattle.llrp_keys.proofs.TextLemmas.{front_printed}
use Rattle.llrp_keys.proofs.all_schemes.run_epc_in_all.Goals as goal

pub returns-in_err-write_all : goal.returns-in_err-write_all
returns-in_err-write_all g c =
    let p = err_from_is_err_and c.from_residual-in_err-write_all.result c.from_residual-in_err-write_all.ensures.1 in
    let (answer, are, more) = c.in_ok-verdict.ensures in
    let all : c.push_answer.new.lines ≡ answer = more ∙ ap (λ (z : List ℕ). z ++ answer) c.new-lines.ensures in
    rw (p.1, p.2) (front_printed (ArePrintedInAll c.args.text.now) c.in_ok-verdict.verdict answer _ _ c.in_err-write_all.field-0.0 are (rw (c.as_slice.ensures ∙ all) at c.in_err-write_all.ensures))
