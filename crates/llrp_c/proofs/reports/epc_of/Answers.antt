use Rattle.std.proofs.Common.{◌≡◌, ◌∙◌, ◌<◌, ◌^◌, ap, subst, arith, ℕ}
use Rattle.tag_bits.specs.Digits.{word_digits}
use Rattle.tag_uri.specs.TagText.{IsTextOf}
use Rattle.llrp_schema.specs.Schema.{fields_of, rule_of, param_rule}
use Rattle.llrp_c.proofs.reports.epc_of.Goals as goal

pub unreachable-requires : goal.unreachable-requires
unfolding fields_of rule_of param_rule
unreachable-requires c =
    let below : c.field.result < 2 ^ 96 = omega (arith, c.field.ensures.fits) in
    let there = c.in_default.ensures.some.1 below in
    cc

pub returns : goal.returns
unfolding fields_of rule_of param_rule
returns c =
    let word : c.in-Some.word ≡ c.field.result = c.in-Some.ensures.number in
    let same = word ∙ c.field.ensures.value in
    let below : c.field.result < 2 ^ 96 = omega (arith, c.field.ensures.fits) in
    let t = c.put_text_of_word-length.ensures.text in (
      record { below = subst (λ (n : ℕ). n < 2 ^ 96) c.field.ensures.value below; spelled = c.to_bytes.ensures ∙ ap word_digits same },
      (t.0, subst (λ (n : ℕ). IsTextOf n t.0) same t.1, t.2),
    )
