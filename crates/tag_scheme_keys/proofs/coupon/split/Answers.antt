use Rattle.std.proofs.Common.{◌++◌, List, ℕ, take, drop, sym, ap, ◌∙◌, subst, arith}
use Rattle.std.proofs.lemmas.Bool.{true≢false}
use Rattle.std.proofs.lemmas.List.{take_at, drop_at}
use Rattle.tag_uri.specs.Calls.Decimal.{AreDigits}
use Rattle.tag_keys.proofs.PieceLemmas.{behind_digits}
use Rattle.tag_scheme_keys.proofs.coupon.split.Goals as goal

pub returns-then-not-are_digits-clause-none : goal.returns-then-not-are_digits-clause-none
returns-then-not-are_digits-clause-none c = λ digits serial h.
    let yes : AreDigits (take 13 c.as_bytes.result.now) = subst AreDigits (sym (ap (take 13) (c.as_bytes.ensures.value ∙ h.is) ∙ take_at digits _ 13 h.count)) h.all_digits in
    true≢false (sym (c.are_digits.ensures.1 yes) ∙ c.if-not-are_digits.true)

pub split_at-requires : goal.split_at-requires
split_at-requires c =
    let yes : AreDigits (take 13 c.as_bytes.result.now) = c.are_digits.ensures.0 c.if-not-are_digits.false in
    behind_digits c.args.rest.now 13 c.utf8.rest (omega arith) (omega arith) (subst (λ (t : List ℕ). AreDigits (take 13 t)) c.as_bytes.ensures.value yes)

pub returns-in_default-clause-none : goal.returns-in_default-clause-none
returns-in_default-clause-none c = λ digits serial h.
    c.in_default.ensures.cases serial (c.split_at.ensures.back ∙ ap (drop 13) h.is ∙ drop_at digits _ 13 h.count ∙ ap (λ (g : List ℕ). g ++ serial) (sym c.gap.ensures))
