use Rattle.std.proofs.Common.{◌≡◌, ◌+◌, ◌≤◌, length, ℕ, List, sym, ap, ◌∙◌, subst, arith}
use Rattle.std.proofs.lemmas.List.{length-take-le}
use Rattle.tag_uri.specs.Calls.Decimal.{AreDigits}
use Rattle.tag_keys.specs.CheckDigit.{is_checked}
use Rattle.tag_keys.specs.KeyFaults.{IsRightDigit}
use Rattle.tag_keys.specs.Private.Forms.{form_in}
use Rattle.tag_keys.specs.Private.Pieces.{one_text}
use Rattle.tag_keys.proofs.FormLemmas.{sizes_of}
use Rattle.tag_keys.proofs.KeyPieces.{reads_key}
use Rattle.tag_keys.proofs.key_pieces.read_pieces.Goals as goal

pub returns-then-rest-form-clause-err : goal.returns-then-rest-form-clause-err
returns-then-rest-form-clause-err c = (
  omega arith,
  record {
    form = form_in c.in-Some.form;
    rest = c.in-Some.rest.now;
    begins = record { kind = c.in-Some.kind; known = c.in-Some.ensures.known; begins = c.in-Some.ensures.begins };
    few = c.if-rest-form.true;
  },
)

pub overflow_sub-others : goal.overflow_sub-others
overflow_sub-others c =
    let f = form_in c.in-Some.form in
    let z = sizes_of c.args.spelling c.in-Some.kind f c.in-Some.ensures.known in
    let room : f.lead + 13 ≤ f.digits = z.room in
    let enough : f.digits ≤ length c.in-Some.rest.now = c.if-rest-form.false in
    let count : length c.in-Some-digits_in_front.digits.now ≡ f.digits = ap length c.in-Some-digits_in_front.ensures.front ∙ length-take-le f.digits c.in-Some.rest.now enough in
    omega (arith, room, count, c.requires, c.cut_digits.ensures.left, c.cut_digits.ensures.count, c.cut_digits-2.ensures.left, c.cut_digits-2.ensures.count)

pub returns-in_default-digits_in_front-clause-err : goal.returns-in_default-digits_in_front-clause-err
returns-in_default-digits_in_front-clause-err c = (
  omega arith,
  record {
    form = form_in c.in-Some.form;
    rest = c.in-Some.rest.now;
    begins = record { kind = c.in-Some.kind; known = c.in-Some.ensures.known; begins = c.in-Some.ensures.begins };
    enough = c.if-rest-form.false;
    strange = c.in_default-digits_in_front.ensures.strange;
  },
)

pub returns-then-not-is_checked-clause-err : goal.returns-then-not-is_checked-clause-err
returns-then-not-is_checked-clause-err c =
    let front = c.in-Some-digits_in_front.ensures.front in (
      omega arith,
      record {
        form = form_in c.in-Some.form;
        rest = c.in-Some.rest.now;
        begins = record { kind = c.in-Some.kind; known = c.in-Some.ensures.known; begins = c.in-Some.ensures.begins };
        enough = c.if-rest-form.false;
        digits = subst AreDigits front c.in-Some-digits_in_front.ensures.digits;
        wrong = ap is_checked (sym front) ∙ ap is_checked (sym c.as_bytes.ensures.value) ∙ sym c.is_checked.ensures ∙ c.if-not-is_checked.true;
        digit = subst (λ (t : List ℕ). IsRightDigit t c.right_digit.result) front c.right_digit.ensures;
      },
    )

pub returns-in_default-read_serial-clause-err : goal.returns-in_default-read_serial-clause-err
returns-in_default-read_serial-clause-err c =
    let front = c.in-Some-digits_in_front.ensures.front in (
      omega arith,
      record {
        form = form_in c.in-Some.form;
        rest = c.in-Some.rest.now;
        begins = record { kind = c.in-Some.kind; known = c.in-Some.ensures.known; begins = c.in-Some.ensures.begins };
        enough = c.if-rest-form.false;
        digits = subst AreDigits front c.in-Some-digits_in_front.ensures.digits;
        right = ap is_checked (sym front) ∙ ap is_checked (sym c.as_bytes.ensures.value) ∙ sym c.is_checked.ensures ∙ c.if-not-is_checked.false;
        wrong = λ serials a e. c.in_default-read_serial.ensures.none serials a (c.in-Some-digits_in_front.ensures.back ∙ e);
      },
    )

pub returns-clause-ok : goal.returns-clause-ok
returns-clause-ok c =
    reads_key c.args.spelling c.args.company_digits c.args.text.now c.in-Some.kind (form_in c.in-Some.form) c.in-Some.rest.now c.in-Some-digits_in_front.digits.now c.in-Some-digits_in_front.tail.now
    c.cut_digits.result.0.now c.cut_digits.result.1.now c.cut_digits-2.result.0.now c.cut_digits-2.result.1.now c.cut_digits-3.result.0.now (one_text c.in-Some-read_serial.serial)
    c.in-Some.ensures.known c.in-Some.ensures.begins c.if-rest-form.false c.requires c.in-Some-digits_in_front.ensures.front c.in-Some-digits_in_front.ensures.back c.in-Some-digits_in_front.ensures.digits
    (ap is_checked (sym c.as_bytes.ensures.value) ∙ sym c.is_checked.ensures ∙ c.if-not-is_checked.false) c.in-Some-read_serial.ensures.some c.in-Some-read_serial.ensures.written
    c.cut_digits.ensures.front c.cut_digits.ensures.back c.cut_digits.ensures.count c.cut_digits-2.ensures.front c.cut_digits-2.ensures.back c.cut_digits-2.ensures.count c.cut_digits-3.ensures.front
