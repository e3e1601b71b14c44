use Rattle.std.proofs.Common.{length, sym, ◌∙◌, arith}
use Rattle.tag_schemes.proofs.TextFacts.{three_digits, asset_lawful, asset_text, right_length}
use Rattle.tag_schemes.proofs.RowFacts.{fills}
use Rattle.tag_schemes.specs.declared.scheme.Scheme.TheVariants.{Giai}
use Rattle.tag_schemes.proofs.read_text.read_asset.Goals as goal

pub number_below-requires-clause-digits : goal.number_below-requires-clause-digits
number_below-requires-clause-digits c = (three_digits c.in-Some.filter.now c.in-Some.company.now c.in-Some.reference.now (sym c.is_one_no_number.ensures ∙ c.if-is_one_no_number.false)).2.digits

pub number_of-requires-2-clause-digits : goal.number_of-requires-2-clause-digits
number_of-requires-2-clause-digits c = (three_digits c.in-Some.filter.now c.in-Some.company.now c.in-Some.reference.now (sym c.is_one_no_number.ensures ∙ c.if-is_one_no_number.false)).1.digits

pub returns-clause-lawful : goal.returns-clause-lawful
returns-clause-lawful c =
    asset_lawful c.in-Some.filter.now _ _ _ _ _ c.in-Some-row.row (sym c.is_no_filter.ensures ∙ c.if-is_no_filter.false) c.number_of.ensures.padded c.number_of.ensures.below (sym c.row.ensures ∙ c.in-Some-row.is) (omega (arith, (right_length (length c.in-Some.company.now) (sym c.has_wrong_length.ensures ∙ c.if-has_wrong_length.false)).1))
    c.number_of-2.ensures.below c.in-Some-number_below.ensures.1

pub returns-clause-ok : goal.returns-clause-ok
returns-clause-ok c =
    let fit = fills Giai _ c.in-Some-row.row (sym c.row.ensures ∙ c.in-Some-row.is) in
    asset_text c.args.rest.now c.in-Some.filter.now c.in-Some.company.now c.in-Some.reference.now _ _ _ c.in-Some-row.row.reference_bits c.in-Some.ensures.some (sym c.is_no_filter.ensures ∙ c.if-is_no_filter.false) c.number_of.ensures.padded c.number_of-2.ensures.padded
    (three_digits c.in-Some.filter.now c.in-Some.company.now c.in-Some.reference.now (sym c.is_one_no_number.ensures ∙ c.if-is_one_no_number.false)).2 (sym c.is_zero_led.ensures ∙ c.if-is_zero_led.false) (omega (arith, fit.reference)) c.in-Some-number_below.ensures.0 c.in-Some-number_below.ensures.1
