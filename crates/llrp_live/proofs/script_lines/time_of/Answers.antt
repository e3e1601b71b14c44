use Rattle.std.proofs.Common.{refl, ap, ◌∙◌, ◌≡◌, ◌++◌, inl, inr, List, ℕ, codes}
use Rattle.llrp_live.proofs.LineLemmas.{suffixed}
use Rattle.llrp_live.proofs.script_lines.time_of.Goals as goal

pub returns-in-Some : goal.returns-in-Some
returns-in-Some c =
    let h = c.in-Some.ensures.cases in
    let is : c.args.text.now ≡ c.in-Some.digits.now ++ codes "ms" = suffixed c.args.text.now c.as_slice.result.now c.in-Some.digits.now h.0 h.1 ∙ ap (λ (x : List ℕ). c.in-Some.digits.now ++ x) c.as_slice.ensures in
    inl (c.in_ok-number_of.field-0, refl, is ∙ ap (λ (x : List ℕ). x ++ codes "ms") c.in_ok-number_of.ensures.1)

pub returns : goal.returns
returns c =
    let h = c.in_ok-digits.ensures.cases in
    let is : c.args.text.now ≡ c.in_ok-digits.digits.now ++ codes "s" = suffixed c.args.text.now c.as_slice-2.result.now c.in_ok-digits.digits.now h.0 h.1 ∙ ap (λ (x : List ℕ). c.in_ok-digits.digits.now ++ x) c.as_slice-2.ensures in
    inr (c.in_ok-number_of-2.field-0, refl, is ∙ ap (λ (x : List ℕ). x ++ codes "s") c.in_ok-number_of-2.ensures.1)
