use Rattle.std.proofs.Common.{◌≡◌, ◌<◌, ◌∷◌, ◌++◌, [], List, ℕ, true, length, take, sym, ap, ◌∙◌, subst, arith}
use Rattle.std.specs.Borrow.{Bor}
use Rattle.std.specs.List.{join_with_byte}
use Rattle.std.proofs.lemmas.Bool.{true≢false}
use Rattle.tag_uri.specs.Calls.Decimal.{AreDigits}
use Rattle.tag_uri.specs.Decimal.{padded}
use Rattle.tag_uri.specs.TagText.{is_strange}
use Rattle.tag_keys.specs.KeyFaults.{IsNumber}
use Rattle.tag_keys.proofs.PieceLemmas.{strange_unless}
use Rattle.tag_scheme_keys.specs.KeyFaults.{part_front, serial_mark}
use Rattle.tag_scheme_keys.proofs.PartPieces.{if_some}
use Rattle.tag_scheme_keys.proofs.PlainKeys.{part_read}
use Rattle.tag_scheme_keys.proofs.part.read_part.Goals as goal

pub returns-then-not-are_digits-clause-err : goal.returns-then-not-are_digits-clause-err
returns-then-not-are_digits-clause-err c =
    let long : c.args.company_digits < length c.part_pieces.result.0.now = omega arith in (
      subst (λ (x : List ℕ). c.args.company_digits < length x) c.part_pieces.ensures.front long,
      subst (λ (x : List ℕ). is_strange x ≡ true) c.part_pieces.ensures.front (strange_unless c.part_pieces.result.0.now (λ d. true≢false (sym (c.are_digits.ensures.1 (subst AreDigits (sym c.as_bytes.ensures.value) d)) ∙ c.if-not-are_digits.true))),
    )

pub returns-in-Ok-clause-ok : goal.returns-in-Ok-clause-ok
returns-in-Ok-clause-ok c =
    let digits = subst AreDigits (c.as_bytes.ensures.value) (c.are_digits.ensures.0 c.if-not-are_digits.false) in
    let number = if_some (λ (x : Bor (List ℕ)). IsNumber x.now) c.part_pieces.result.1 c.in-Some.serial c.in-Some.is c.part_pieces.ensures.number in
    let whole = if_some (λ (x : Bor (List ℕ)). c.args.rest.now ≡ part_front c.args.spelling c.args.rest.now ++ (serial_mark c.args.spelling ++ x.now)) c.part_pieces.result.1 c.in-Some.serial c.in-Some.is c.part_pieces.ensures.some in
    let pieces = c.as_str.ensures.value ∙ c.four_joined-components.ensures.text ∙ ap (λ (x : List ℕ). join_with_byte 46 (padded 1 c.args.filter ∷ x ∷ c.cut_digits.result.1.now ∷ c.in-Some.serial.now ∷ [])) c.cut_digits.ensures.front
    ∙ ap (λ (x : List ℕ). join_with_byte 46 (padded 1 c.args.filter ∷ take c.args.company_digits c.part_pieces.result.0.now ∷ x ∷ c.in-Some.serial.now ∷ [])) c.cut_digits.ensures.back in
    let asked = part_read c.args.spelling c.args.filter c.args.company_digits c.in-Ok.epc c.part_pieces.result.0.now c.args.rest.now c.in-Some.serial.now c.as_str.result.now c.in-Ok.ensures.lawful c.in-Ok.ensures.scheme c.requires.filter (omega arith) digits number
    (whole ∙ ap (λ (x : List ℕ). x ++ (serial_mark c.args.spelling ++ c.in-Some.serial.now)) (sym c.part_pieces.ensures.front)) pieces c.in-Ok.ensures.ok in
    asked.0

pub returns-in-Ok-clause-asked : goal.returns-in-Ok-clause-asked
returns-in-Ok-clause-asked c =
    let digits = subst AreDigits (c.as_bytes.ensures.value) (c.are_digits.ensures.0 c.if-not-are_digits.false) in
    let number = if_some (λ (x : Bor (List ℕ)). IsNumber x.now) c.part_pieces.result.1 c.in-Some.serial c.in-Some.is c.part_pieces.ensures.number in
    let whole = if_some (λ (x : Bor (List ℕ)). c.args.rest.now ≡ part_front c.args.spelling c.args.rest.now ++ (serial_mark c.args.spelling ++ x.now)) c.part_pieces.result.1 c.in-Some.serial c.in-Some.is c.part_pieces.ensures.some in
    let pieces = c.as_str.ensures.value ∙ c.four_joined-components.ensures.text ∙ ap (λ (x : List ℕ). join_with_byte 46 (padded 1 c.args.filter ∷ x ∷ c.cut_digits.result.1.now ∷ c.in-Some.serial.now ∷ [])) c.cut_digits.ensures.front
    ∙ ap (λ (x : List ℕ). join_with_byte 46 (padded 1 c.args.filter ∷ take c.args.company_digits c.part_pieces.result.0.now ∷ x ∷ c.in-Some.serial.now ∷ [])) c.cut_digits.ensures.back in
    let asked = part_read c.args.spelling c.args.filter c.args.company_digits c.in-Ok.epc c.part_pieces.result.0.now c.args.rest.now c.in-Some.serial.now c.as_str.result.now c.in-Ok.ensures.lawful c.in-Ok.ensures.scheme c.requires.filter (omega arith) digits number
    (whole ∙ ap (λ (x : List ℕ). x ++ (serial_mark c.args.spelling ++ c.in-Some.serial.now)) (sym c.part_pieces.ensures.front)) pieces c.in-Ok.ensures.ok in
    (asked.1, asked.2)
