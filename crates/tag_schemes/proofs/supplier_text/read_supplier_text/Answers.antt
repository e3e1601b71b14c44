use Rattle.std.proofs.Common.{sym, ◌∙◌}
use Rattle.tag_schemes.proofs.SupplierTexts.{code_stands, supplier_text_read, two_digits}
use Rattle.tag_schemes.proofs.TextFacts.{two_led}
use Rattle.tag_schemes.proofs.supplier_text.read_supplier_text.Goals as goal

pub number_below-requires-clause-digits : goal.number_below-requires-clause-digits
number_below-requires-clause-digits c = (two_digits c.in-Some.filter.now c.in-Some.serial.now (sym c.is_one_no_number_of_two.ensures ∙ c.if-is_one_no_number_of_two.false)).0.digits

pub number_below-requires-2-clause-digits : goal.number_below-requires-2-clause-digits
number_below-requires-2-clause-digits c = (two_digits c.in-Some.filter.now c.in-Some.serial.now (sym c.is_one_no_number_of_two.ensures ∙ c.if-is_one_no_number_of_two.false)).1.digits

pub returns-clause-lawful : goal.returns-clause-lawful
returns-clause-lawful c = record {
  filter = c.in-Some-number_below.ensures.1;
  six = c.code_of.ensures.six;
  code = code_stands c.code_of.result c.in-Some.code.now c.code_of.ensures.six c.code_of.ensures.text (sym c.is_no_code.ensures ∙ c.if-is_no_code.false);
  serial = c.in-Some-number_below-2.ensures.1;
}

pub returns-clause-ok : goal.returns-clause-ok
returns-clause-ok c =
    let two = two_digits c.in-Some.filter.now c.in-Some.serial.now (sym c.is_one_no_number_of_two.ensures ∙ c.if-is_one_no_number_of_two.false) in
    let led = two_led c.in-Some.filter.now c.in-Some.serial.now (sym c.is_one_zero_led.ensures ∙ c.if-is_one_zero_led.false) in
    supplier_text_read c.args.rest.now c.in-Some.filter.now c.in-Some.code.now c.in-Some.serial.now _ _ c.code_of.result c.in-Some.ensures.some two.0 led.0 c.in-Some-number_below.ensures.0 c.in-Some-number_below.ensures.1 c.code_of.ensures.text
    two.1 led.1 c.in-Some-number_below-2.ensures.0 c.in-Some-number_below-2.ensures.1
