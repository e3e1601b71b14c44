use Rattle.std.proofs.Common.{◌≡◌, ◌+◌, ◌-◌, ◌*◌, ◌/◌, ◌%◌, ◌∙◌, arith, ap}
use Rattle.tag_bits.specs.Digits.{value, digits_of_bytes, field}
use Rattle.tag_bits.proofs.FieldLemmas.{halves_of_field}
use Rattle.tag_bits.proofs.fields.get_wide.Goals as goal

pub returns : goal.returns
returns c =
    let bytes = c.args.bytes.now in
    let place = 8 * c.args.first + c.args.before in
    let upper = c.args.width - 64 in
    let behind = c.args.before + c.args.width - 64 in
    let whole : upper + 64 ≡ c.args.width = omega arith in
    let middle : 8 * (c.args.first + behind / 8) + behind % 8 ≡ place + upper = omega arith in
    halves_of_field bytes place upper c.get_narrow-upper.result c.get_narrow.result (omega arith) (omega (arith, c.requires.within))
    c.get_narrow-upper.ensures
    (c.get_narrow.ensures ∙ ap (λ p. value (field (digits_of_bytes bytes) p 64)) middle)
    ∙ ap (λ w. value (field (digits_of_bytes bytes) place w)) whole
