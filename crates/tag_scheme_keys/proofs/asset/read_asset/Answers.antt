use Rattle.std.proofs.Common.{◌∷◌, [], List, ℕ, length, take, sym, ap, ◌∙◌, subst, arith}
use Rattle.std.specs.List.{join_with_byte}
use Rattle.std.proofs.lemmas.Bool.{true≢false}
use Rattle.tag_uri.specs.Calls.Decimal.{AreDigits}
use Rattle.tag_uri.specs.Decimal.{padded}
use Rattle.tag_schemes.specs.declared.scheme.Scheme.TheVariants.{Giai}
use Rattle.tag_schemes.specs.Texts.{HasFaultIn}
use Rattle.tag_keys.proofs.PieceLemmas.{strange_unless}
use Rattle.tag_scheme_keys.proofs.PlainKeys.{asset_read}
use Rattle.tag_scheme_keys.proofs.asset.read_asset.Goals as goal

pub returns-then-not-are_digits-clause-err : goal.returns-then-not-are_digits-clause-err
returns-then-not-are_digits-clause-err c = (
  omega arith,
  strange_unless c.args.rest.now (λ d. true≢false (sym (c.are_digits.ensures.1 (subst AreDigits (sym c.as_bytes.ensures.value) d)) ∙ c.if-not-are_digits.true)),
)

pub numbers_with-requires : goal.numbers_with-requires
numbers_with-requires c =
    let long = ap length c.as_str.ensures.value in
    record { room = omega (arith, long, c.three_joined-components.ensures.len, c.cut_digits.ensures.count, c.cut_digits.ensures.left, c.requires.short) }

pub returns-in-Ok-clause-ok : goal.returns-in-Ok-clause-ok
returns-in-Ok-clause-ok c =
    let digits = subst AreDigits c.as_bytes.ensures.value (c.are_digits.ensures.0 c.if-not-are_digits.false) in
    let pieces = c.as_str.ensures.value ∙ c.three_joined-components.ensures.text ∙ ap (λ (x : List ℕ). join_with_byte 46 (padded 1 c.args.filter ∷ x ∷ c.cut_digits.result.1.now ∷ [])) c.cut_digits.ensures.front
    ∙ ap (λ (x : List ℕ). join_with_byte 46 (padded 1 c.args.filter ∷ take c.args.company_digits c.args.rest.now ∷ x ∷ [])) c.cut_digits.ensures.back in
    (asset_read c.args.spelling c.args.filter c.args.company_digits c.in-Ok.epc c.args.rest.now c.as_str.result.now c.in-Ok.ensures.lawful c.in-Ok.ensures.scheme c.requires.filter (omega arith) digits pieces c.in-Ok.ensures.ok).0

pub returns-in-Ok-clause-asked : goal.returns-in-Ok-clause-asked
returns-in-Ok-clause-asked c =
    let digits = subst AreDigits c.as_bytes.ensures.value (c.are_digits.ensures.0 c.if-not-are_digits.false) in
    let pieces = c.as_str.ensures.value ∙ c.three_joined-components.ensures.text ∙ ap (λ (x : List ℕ). join_with_byte 46 (padded 1 c.args.filter ∷ x ∷ c.cut_digits.result.1.now ∷ [])) c.cut_digits.ensures.front
    ∙ ap (λ (x : List ℕ). join_with_byte 46 (padded 1 c.args.filter ∷ take c.args.company_digits c.args.rest.now ∷ x ∷ [])) c.cut_digits.ensures.back in
    let asked = asset_read c.args.spelling c.args.filter c.args.company_digits c.in-Ok.epc c.args.rest.now c.as_str.result.now c.in-Ok.ensures.lawful c.in-Ok.ensures.scheme c.requires.filter (omega arith) digits pieces c.in-Ok.ensures.ok in
    (asked.1, asked.2)

pub returns-in-Err-clause-err : goal.returns-in-Err-clause-err
returns-in-Err-clause-err c =
    let digits = subst AreDigits c.as_bytes.ensures.value (c.are_digits.ensures.0 c.if-not-are_digits.false) in
    let pieces = c.as_str.ensures.value ∙ c.three_joined-components.ensures.text ∙ ap (λ (x : List ℕ). join_with_byte 46 (padded 1 c.args.filter ∷ x ∷ c.cut_digits.result.1.now ∷ [])) c.cut_digits.ensures.front
    ∙ ap (λ (x : List ℕ). join_with_byte 46 (padded 1 c.args.filter ∷ take c.args.company_digits c.args.rest.now ∷ x ∷ [])) c.cut_digits.ensures.back in
    (omega arith, digits, subst (λ (t : List ℕ). HasFaultIn Giai t c.in-Err.fault) pieces c.in-Err.ensures.err)
