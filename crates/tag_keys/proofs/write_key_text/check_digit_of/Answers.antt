use Rattle.std.proofs.Common.{◌∷◌, [], ◌+◌, ◌-◌, ◌%◌, List, ℕ, sym, ap, ◌∙◌, subst, arith}
use Rattle.tag_uri.specs.Calls.Decimal.{AreDigits}
use Rattle.tag_keys.specs.CheckDigit.{weighed}
use Rattle.tag_keys.proofs.PieceLemmas.{digits_both}
use Rattle.tag_keys.proofs.BuildLemmas.{digits_joined}
use Rattle.tag_keys.proofs.write_key_text.check_digit_of.Goals as goal

pub check_digit-requires-clause-digits : goal.check_digit-requires-clause-digits
check_digit-requires-clause-digits c =
    let e = c.as_bytes.ensures.value ∙ c.as_str.ensures.value ∙ digits_joined _ _ _ _ _ c.args.lead.now c.args.company.now c.args.rest.now c.new-digits.ensures c.push_str.ensures.bytes c.push_str-2.ensures.bytes c.push_str-3.ensures.bytes c.push_str-4.ensures.bytes in
    let zero : AreDigits (48 ∷ []) = ((omega arith, omega arith), tt) in
    subst AreDigits (sym e) (digits_both _ (48 ∷ []) (digits_both c.args.lead.now _ c.requires.lead_digits (digits_both c.args.company.now c.args.rest.now c.requires.company_digits c.requires.rest_digits)) zero)

pub returns : goal.returns
returns c =
    let e = c.as_bytes.ensures.value ∙ c.as_str.ensures.value ∙ digits_joined _ _ _ _ _ c.args.lead.now c.args.company.now c.args.rest.now c.new-digits.ensures c.push_str.ensures.bytes c.push_str-2.ensures.bytes c.push_str-3.ensures.bytes c.push_str-4.ensures.bytes in
    record { digit = c.check_digit.ensures.digit ∙ ap (λ (x : List ℕ). 48 + (10 - weighed x % 10) % 10) e }
