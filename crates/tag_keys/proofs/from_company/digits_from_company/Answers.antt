use Rattle.std.proofs.Common.{drop, ap, ◌∙◌, subst}
use Rattle.tag_uri.specs.Calls.Decimal.{AreDigits}
use Rattle.tag_keys.specs.KeyFaults.{HasStrangeDigit}
use Rattle.tag_keys.specs.Private.Forms.{form_in}
use Rattle.tag_keys.proofs.OneFault.{strange_digits}
use Rattle.tag_keys.proofs.from_company.digits_from_company.Goals as goal

pub returns-in_default-clause-none : goal.returns-in_default-clause-none
returns-in_default-clause-none c = λ digits x. c.in_default.ensures.none x.form x.rest x.begins

pub returns-in_default-digits_in_front-clause-none : goal.returns-in_default-digits_in_front-clause-none
returns-in_default-digits_in_front-clause-none c = λ digits x.
    let strange : HasStrangeDigit c.args.spelling c.args.text.now = record {
      form = form_in c.in-Some.form;
      rest = c.in-Some.rest.now;
      begins = record { kind = c.in-Some.field-0-0; known = c.in-Some.ensures.known; begins = c.in-Some.ensures.begins };
      enough = c.if-rest-form.false;
      strange = c.in_default-digits_in_front.ensures.strange;
    } in
    strange_digits c.args.spelling 0 0 c.args.text.now strange x.form x.rest x.begins x.all_digits

pub returns-clause-some : goal.returns-clause-some
returns-clause-some c = record {
  form = form_in c.in-Some.form;
  rest = c.in-Some.rest.now;
  begins = record { kind = c.in-Some.field-0-0; known = c.in-Some.ensures.known; begins = c.in-Some.ensures.begins };
  enough = c.if-rest-form.false;
  all_digits = subst AreDigits c.in-Some-digits_in_front.ensures.front c.in-Some-digits_in_front.ensures.digits;
  are = c.cut_digits.ensures.back ∙ ap (drop c.in-Some.form.lead) c.in-Some-digits_in_front.ensures.front;
}
