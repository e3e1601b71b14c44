use Rattle.std.proofs.Common.{length, sym, ◌∙◌}
use Rattle.tag_schemes.proofs.TextFacts.{four_digits, two_led, part_is, part_below, part_text, right_length}
use Rattle.tag_schemes.proofs.read_text.read_part.Goals as goal

pub part_reference-requires-clause-digits : goal.part_reference-requires-clause-digits
part_reference-requires-clause-digits c = (four_digits c.in-Some.filter.now c.in-Some.company.now c.in-Some.reference.now c.in-Some.serial.now (sym c.is_one_no_number_of_four.ensures ∙ c.if-is_one_no_number_of_four.false)).2.digits

pub number_below-requires-clause-digits : goal.number_below-requires-clause-digits
number_below-requires-clause-digits c = (four_digits c.in-Some.filter.now c.in-Some.company.now c.in-Some.reference.now c.in-Some.serial.now (sym c.is_one_no_number_of_four.ensures ∙ c.if-is_one_no_number_of_four.false)).3.digits

pub number_of-requires-2-clause-digits : goal.number_of-requires-2-clause-digits
number_of-requires-2-clause-digits c = (four_digits c.in-Some.filter.now c.in-Some.company.now c.in-Some.reference.now c.in-Some.serial.now (sym c.is_one_no_number_of_four.ensures ∙ c.if-is_one_no_number_of_four.false)).1.digits

pub returns-clause-lawful : goal.returns-clause-lawful
returns-clause-lawful c =
    let right = right_length (length c.in-Some.company.now) (sym c.has_wrong_length.ensures ∙ c.if-has_wrong_length.false) in
    part_is c.in-Some.filter.now _ _ _ _ _ (sym c.is_no_filter.ensures ∙ c.if-is_no_filter.false) c.number_of.ensures.padded c.number_of.ensures.below right.0 right.1 c.number_of-2.ensures.below c.in-Some-part_reference.ensures.some.1 c.in-Some-number_below.ensures.1

pub returns-clause-ok : goal.returns-clause-ok
returns-clause-ok c =
    let right = right_length (length c.in-Some.company.now) (sym c.has_wrong_length.ensures ∙ c.if-has_wrong_length.false) in
    let four = four_digits c.in-Some.filter.now c.in-Some.company.now c.in-Some.reference.now c.in-Some.serial.now (sym c.is_one_no_number_of_four.ensures ∙ c.if-is_one_no_number_of_four.false) in
    let led = two_led c.in-Some.reference.now c.in-Some.serial.now (sym c.is_one_zero_led.ensures ∙ c.if-is_one_zero_led.false) in
    part_text c.args.rest.now c.in-Some.filter.now c.in-Some.company.now c.in-Some.reference.now c.in-Some.serial.now _ _ _ _ c.in-Some.ensures.some (sym c.is_no_filter.ensures ∙ c.if-is_no_filter.false) c.number_of.ensures.padded c.number_of-2.ensures.padded
    four.2 led.0 c.in-Some-part_reference.ensures.some.0 (part_below (length c.in-Some.company.now) _ right.0 right.1 c.in-Some-part_reference.ensures.some.1) four.3 led.1 c.in-Some-number_below.ensures.0 c.in-Some-number_below.ensures.1
