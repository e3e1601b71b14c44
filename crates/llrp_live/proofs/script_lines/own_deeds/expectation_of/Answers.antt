use Rattle.std.proofs.Common.{sym, ap, ◌∙◌, ◌≡◌, ◌++◌, ◌∷◌, List, ℕ, codes}
use Rattle.llrp_live.proofs.LineLemmas.{prefixed}
use Rattle.llrp_live.proofs.script_lines.own_deeds.expectation_of.Goals as goal

pub returns : goal.returns
returns c =
    let name = c.in_ok-name.name.now in
    let time = c.in_ok-strip_prefix.field-0.now in
    let h = c.in_ok-strip_prefix.ensures.cases in
    let within : c.in_ok-name.rest.now ≡ codes "within " ++ time = prefixed c.in_ok-name.rest.now c.as_slice.result.now time h.0 h.1 ∙ ap (λ (x : List ℕ). x ++ time) c.as_slice.ensures in
    (name, time, sym c.in_ok-kind.ensures, c.in_ok-wait.ensures, ap (λ (x : List ℕ). codes "expect " ++ x) (c.in_ok-name.ensures.1 ∙ ap (λ (x : List ℕ). name ++ 32 ∷ x) within))
