use Rattle.std.proofs.Common.{◌≡◌, ◌+◌, ◌-◌, ◌*◌, ◌∙◌, length, take, drop, refl, arith, ap, length-take, length-drop}
use Rattle.tag_bits.specs.Digits.{value, digits, field}
use Rattle.tag_bits.proofs.FieldLemmas.{field_within, eight_digits}
use Rattle.tag_bits.proofs.fields.get_narrow.Goals as goal

pub returns-then-first-bytes : goal.returns-then-first-bytes
returns-then-first-bytes c =
    let first = c.args.first in
    let count = first + 8 - first in
    let octets = take count (drop first c.args.bytes.now) in
    let eight : length octets ≡ 8 = omega (arith, length-take count (drop first c.args.bytes.now), length-drop first c.args.bytes.now) in
    c.part_of_eight.ensures
    ∙ ap (λ n. value (field (digits 64 n) c.args.before c.args.width)) c.number_of_eight-eight.ensures
    ∙ ap (λ x. value (field x c.args.before c.args.width)) (eight_digits octets eight)
    ∙ ap value (field_within c.args.bytes.now first count c.args.before (8 * first + c.args.before) c.args.width refl (omega arith) (omega arith))
