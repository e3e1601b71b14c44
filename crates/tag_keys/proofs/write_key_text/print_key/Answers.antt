use Rattle.std.proofs.Common.{◌<◌, ◌++◌, ℕ, List, length, refl, sym, ap, ◌∙◌, subst, arith, length-append}
use Rattle.std.specs.List.{join_with_byte}
use Rattle.tag_epc.specs.declared.epc.Parts.{Parts}
use Rattle.tag_epc.specs.LawfulWord.{kind_of_parts}
use Rattle.tag_uri.specs.TagText.{tag_uri, components, components_of}
use Rattle.tag_keys.specs.CheckDigit.{with_check_digit}
use Rattle.tag_keys.specs.KeyText.{IsKeyText}
use Rattle.tag_keys.specs.Private.Forms.{form_in}
use Rattle.tag_keys.proofs.BuildLemmas.{named, numbers_again}
use Rattle.tag_keys.proofs.PieceLemmas.{length-with_check}
use Rattle.tag_keys.proofs.KeyPieces.{facts, many, key_written}
use Rattle.tag_keys.proofs.write_key_text.print_key.Goals as goal

pub numbers_of-numbers-requires : goal.numbers_of-numbers-requires
numbers_of-numbers-requires c = (
  join_with_byte 46 (components_of c.parts.result),
  named c.parts.result c.in-Partitioned.kind c.as_str.result.now (sym (ap kind_of_parts c.in-Partitioned.is)) (c.as_str.ensures.value ∙ c.print-tag.ensures ∙ ap tag_uri (sym c.parts.ensures.parts)),
)

pub unreachable-requires : goal.unreachable-requires
unreachable-requires c =
    let tag = c.as_str.ensures.value ∙ c.print-tag.ensures ∙ ap tag_uri (sym c.parts.ensures.parts) in
    let same = numbers_again c.parts.result c.in-Partitioned.kind c.as_str.result.now c.numbers_of-numbers.result.now c.parts.ensures.lawful tag c.numbers_of-numbers.ensures in
    let three = many c.args.spelling c.parts.result c.in-Partitioned.kind _ _ _ _ _ (form_in c.in-Some.form) c.numbers_of-numbers.result.now c.parts.ensures.lawful c.in-Partitioned.is c.in-Some.ensures same in
    let none : length (components c.numbers_of-numbers.result.now) < 3 = c.in_default-split.ensures.none in
    omega (arith, three, none)

pub cut_digits-requires-clause-digits : goal.cut_digits-requires-clause-digits
cut_digits-requires-clause-digits c =
    let tag = c.as_str.ensures.value ∙ c.print-tag.ensures ∙ ap tag_uri (sym c.parts.ensures.parts) in
    let same = numbers_again c.parts.result c.in-Partitioned.kind c.as_str.result.now c.numbers_of-numbers.result.now c.parts.ensures.lawful tag c.numbers_of-numbers.ensures in
    let f = facts c.args.spelling c.parts.result c.in-Partitioned.kind _ _ _ _ _ (form_in c.in-Some.form) c.numbers_of-numbers.result.now c.in-Some-split.components.first.now c.in-Some-split.components.second.now c.in-Some-split.components.third.now c.in-Some-split.components.others
    c.parts.ensures.lawful c.in-Partitioned.is c.in-Some.ensures same c.in-Some-split.ensures.some in
    f.third_digits

pub cut_digits-requires-clause-within : goal.cut_digits-requires-clause-within
cut_digits-requires-clause-within c =
    let tag = c.as_str.ensures.value ∙ c.print-tag.ensures ∙ ap tag_uri (sym c.parts.ensures.parts) in
    let same = numbers_again c.parts.result c.in-Partitioned.kind c.as_str.result.now c.numbers_of-numbers.result.now c.parts.ensures.lawful tag c.numbers_of-numbers.ensures in
    let f = facts c.args.spelling c.parts.result c.in-Partitioned.kind _ _ _ _ _ (form_in c.in-Some.form) c.numbers_of-numbers.result.now c.in-Some-split.components.first.now c.in-Some-split.components.second.now c.in-Some-split.components.third.now c.in-Some-split.components.others
    c.parts.ensures.lawful c.in-Partitioned.is c.in-Some.ensures same c.in-Some-split.ensures.some in
    f.lead

pub push_checked-requires-clause-company_digits : goal.push_checked-requires-clause-company_digits
push_checked-requires-clause-company_digits c =
    let tag = c.as_str.ensures.value ∙ c.print-tag.ensures ∙ ap tag_uri (sym c.parts.ensures.parts) in
    let same = numbers_again c.parts.result c.in-Partitioned.kind c.as_str.result.now c.numbers_of-numbers.result.now c.parts.ensures.lawful tag c.numbers_of-numbers.ensures in
    let f = facts c.args.spelling c.parts.result c.in-Partitioned.kind _ _ _ _ _ (form_in c.in-Some.form) c.numbers_of-numbers.result.now c.in-Some-split.components.first.now c.in-Some-split.components.second.now c.in-Some-split.components.third.now c.in-Some-split.components.others
    c.parts.ensures.lawful c.in-Partitioned.is c.in-Some.ensures same c.in-Some-split.ensures.some in
    f.second_digits

pub push_checked-requires-clause-few : goal.push_checked-requires-clause-few
push_checked-requires-clause-few c =
    let tag = c.as_str.ensures.value ∙ c.print-tag.ensures ∙ ap tag_uri (sym c.parts.ensures.parts) in
    let same = numbers_again c.parts.result c.in-Partitioned.kind c.as_str.result.now c.numbers_of-numbers.result.now c.parts.ensures.lawful tag c.numbers_of-numbers.ensures in
    let f = facts c.args.spelling c.parts.result c.in-Partitioned.kind _ _ _ _ _ (form_in c.in-Some.form) c.numbers_of-numbers.result.now c.in-Some-split.components.first.now c.in-Some-split.components.second.now c.in-Some-split.components.third.now c.in-Some-split.components.others
    c.parts.ensures.lawful c.in-Partitioned.is c.in-Some.ensures same c.in-Some-split.ensures.some in
    omega (arith, f.whole, c.cut_digits.ensures.count, c.cut_digits.ensures.left)

pub push_checked-requires-clause-room : goal.push_checked-requires-clause-room
push_checked-requires-clause-room c =
    let tag = c.as_str.ensures.value ∙ c.print-tag.ensures ∙ ap tag_uri (sym c.parts.ensures.parts) in
    let same = numbers_again c.parts.result c.in-Partitioned.kind c.as_str.result.now c.numbers_of-numbers.result.now c.parts.ensures.lawful tag c.numbers_of-numbers.ensures in
    let f = facts c.args.spelling c.parts.result c.in-Partitioned.kind _ _ _ _ _ (form_in c.in-Some.form) c.numbers_of-numbers.result.now c.in-Some-split.components.first.now c.in-Some-split.components.second.now c.in-Some-split.components.third.now c.in-Some-split.components.others
    c.parts.ensures.lawful c.in-Partitioned.is c.in-Some.ensures same c.in-Some-split.ensures.some in
    let front = ap length c.push_str.ensures.bytes ∙ length-append c.new-text.result.bytes c.in-Some.form.start.now in
    let none = ap length c.new-text.ensures in
    omega (arith, f.whole, f.start, front, none, c.cut_digits.ensures.count, c.cut_digits.ensures.left)

pub push_serial-requires : goal.push_serial-requires
push_serial-requires c =
    let tag = c.as_str.ensures.value ∙ c.print-tag.ensures ∙ ap tag_uri (sym c.parts.ensures.parts) in
    let same = numbers_again c.parts.result c.in-Partitioned.kind c.as_str.result.now c.numbers_of-numbers.result.now c.parts.ensures.lawful tag c.numbers_of-numbers.ensures in
    let f = facts c.args.spelling c.parts.result c.in-Partitioned.kind _ _ _ _ _ (form_in c.in-Some.form) c.numbers_of-numbers.result.now c.in-Some-split.components.first.now c.in-Some-split.components.second.now c.in-Some-split.components.third.now c.in-Some-split.components.others
    c.parts.ensures.lawful c.in-Partitioned.is c.in-Some.ensures same c.in-Some-split.ensures.some in
    let front = ap length c.push_str.ensures.bytes ∙ length-append c.new-text.result.bytes c.in-Some.form.start.now in
    let none = ap length c.new-text.ensures in
    let l : List ℕ = c.cut_digits.result.0.now in
    let s : List ℕ = c.in-Some-split.components.second.now in
    let r : List ℕ = c.cut_digits.result.1.now in
    let checked = ap length c.push_checked.ensures ∙ length-append c.push_str.new.self.bytes (with_check_digit (l ++ (s ++ r))) in
    let body = length-with_check (l ++ (s ++ r)) in
    record { room = omega (arith, f.whole, f.start, f.serial, front, none, checked, body, length-append l (s ++ r), length-append s r, c.cut_digits.ensures.count, c.cut_digits.ensures.left) }

pub returns-clause-some : goal.returns-clause-some
returns-clause-some c =
    let tag = c.as_str.ensures.value ∙ c.print-tag.ensures ∙ ap tag_uri (sym c.parts.ensures.parts) in
    let same = numbers_again c.parts.result c.in-Partitioned.kind c.as_str.result.now c.numbers_of-numbers.result.now c.parts.ensures.lawful tag c.numbers_of-numbers.ensures in
    let f = facts c.args.spelling c.parts.result c.in-Partitioned.kind _ _ _ _ _ (form_in c.in-Some.form) c.numbers_of-numbers.result.now c.in-Some-split.components.first.now c.in-Some-split.components.second.now c.in-Some-split.components.third.now c.in-Some-split.components.others
    c.parts.ensures.lawful c.in-Partitioned.is c.in-Some.ensures same c.in-Some-split.ensures.some in
    let text = key_written c.args.spelling c.parts.result c.in-Partitioned.kind (form_in c.in-Some.form) c.in-Some-split.components.first.now c.in-Some-split.components.second.now c.in-Some-split.components.third.now c.in-Some-split.components.others
    c.new-text.result.bytes c.push_str.new.self.bytes c.push_checked.new.text.bytes c.push_serial.new.text.bytes c.cut_digits.result.0.now c.cut_digits.result.1.now c.in-Some.form.start.now f (sym (ap kind_of_parts c.in-Partitioned.is)) c.in-Some.ensures
    refl c.new-text.ensures c.push_str.ensures.bytes c.cut_digits.ensures.front c.cut_digits.ensures.back c.push_checked.ensures c.push_serial.ensures in
    subst (λ (p : Parts). IsKeyText c.args.spelling p c.push_serial.new.text.bytes) c.parts.ensures.parts text
