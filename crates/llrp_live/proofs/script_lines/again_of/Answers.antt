use Rattle.std.proofs.Common.{refl, ap, ◌∙◌, ◌≡◌, ◌++◌, ◌∷◌, List, ℕ, codes}
use Rattle.llrp_live.proofs.LineLemmas.{prefixed}
use Rattle.llrp_live.proofs.script_lines.again_of.Goals as goal

pub returns : goal.returns
returns c =
    let every = c.in-Some.ensures.cases in
    let for = c.in_ok-strip_prefix.ensures.cases in
    let one : c.args.text.now ≡ codes "every " ++ c.in-Some.times.now = prefixed c.args.text.now c.as_slice.result.now c.in-Some.times.now every.0 every.1 ∙ ap (λ (x : List ℕ). x ++ c.in-Some.times.now) c.as_slice.ensures in
    let two : c.in_ok-period.rest.now ≡ codes "for " ++ c.in_ok-strip_prefix.field-0.now = prefixed c.in_ok-period.rest.now c.as_slice-2.result.now c.in_ok-strip_prefix.field-0.now for.0 for.1 ∙ ap (λ (x : List ℕ). x ++ c.in_ok-strip_prefix.field-0.now) c.as_slice-2.ensures in (
      c.in_ok-period.period.now,
      c.in_ok-left.left.now,
      refl,
      c.in_ok-period-2.ensures,
      c.in_ok-left-2.ensures,
      one ∙ ap (λ (x : List ℕ). codes "every " ++ x) (c.in_ok-period.ensures.1
          ∙ ap (λ (x : List ℕ). c.in_ok-period.period.now ++ (32 ∷ x)) (two ∙ ap (λ (x : List ℕ). codes "for " ++ x) c.in_ok-left.ensures.1)),
    )
