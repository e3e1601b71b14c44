use Rattle.std.proofs.Common.{◌≡◌, ℕ, ◌+◌, ◌*◌, ◌/◌, ◌%◌, ◌∙◌, List, arith, ap}
use Rattle.tag_bits.specs.Digits.{value, digits_of_bytes, field}
use Rattle.tag_bits.proofs.FieldLemmas.{digits_of_field, field_below}
use Rattle.tag_bits.proofs.fields.get.Goals as goal

-- a field of bytes, by its first octet
of_octet : (bytes : List ℕ) (place width : ℕ) → value (field (digits_of_bytes bytes) (8 * (place / 8) + place % 8) width) ≡ value (field (digits_of_bytes bytes) place width)
of_octet bytes place width =
    let start : 8 * (place / 8) + place % 8 ≡ place = omega arith in
    ap (λ p. value (field (digits_of_bytes bytes) p width)) start

pub returns-then-width-le64-clause-value : goal.returns-then-width-le64-clause-value
returns-then-width-le64-clause-value c = c.get_narrow.ensures ∙ of_octet c.args.bytes.now c.args.place c.args.width

pub returns-then-width-le64-clause-digits : goal.returns-then-width-le64-clause-digits
returns-then-width-le64-clause-digits c = digits_of_field c.args.bytes.now c.args.place c.args.width _ c.requires.within (returns-then-width-le64-clause-value c)

pub returns-then-width-le64-clause-below : goal.returns-then-width-le64-clause-below
returns-then-width-le64-clause-below c = field_below c.args.bytes.now c.args.place c.args.width _ c.requires.within (returns-then-width-le64-clause-value c)

pub returns-else-width-le64-clause-value : goal.returns-else-width-le64-clause-value
returns-else-width-le64-clause-value c = c.get_wide.ensures ∙ of_octet c.args.bytes.now c.args.place c.args.width

pub returns-else-width-le64-clause-digits : goal.returns-else-width-le64-clause-digits
returns-else-width-le64-clause-digits c = digits_of_field c.args.bytes.now c.args.place c.args.width _ c.requires.within (returns-else-width-le64-clause-value c)

pub returns-else-width-le64-clause-below : goal.returns-else-width-le64-clause-below
returns-else-width-le64-clause-below c = field_below c.args.bytes.now c.args.place c.args.width _ c.requires.within (returns-else-width-le64-clause-value c)
