use Rattle.std.proofs.Common.{refl, sym, ◌∙◌, arith}
use Rattle.std.proofs.lemmas.Bool.{true≢false, false≢true}
use Rattle.tag_keys.proofs.PieceLemmas.{digit_passes, digits_of_passes}
use Rattle.tag_scheme_keys.proofs.digits.are_digits.Goals as goal

pub returns-then-not-is_ascii_digit : goal.returns-then-not-is_ascii_digit
returns-then-not-is_ascii_digit c = (
  λ f. absurd (false≢true f),
  λ h. absurd (true≢false (sym (digit_passes c.args.octets.now c.loop-octet.octet-index h c.loop-octet-test.true) ∙ sym c.is_ascii_digit.ensures.value ∙ c.if-not-is_ascii_digit.true)),
)

pub returns : goal.returns
returns c = (λ t. digits_of_passes c.args.octets.now (λ k l. c.loop-octet.invariant k (omega arith)), λ h. refl)
