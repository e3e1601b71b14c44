use Rattle.std.proofs.Common.{◌≡◌, ◌≤◌, ◌+◌, length, [], ◌∷◌, ◌++◌, List, ℕ, drop, sym, ap, ◌∙◌, arith, rules}
use Rattle.tag_uri.proofs.TextLaws.{begins}
use Rattle.tag_scheme_keys.specs.KeyText.{gap}
use Rattle.tag_scheme_keys.proofs.OlderKeys.{document_written, coupon_written, coupon_made, gap_short}
use Rattle.tag_scheme_keys.proofs.coupon.push_coupon.Goals as goal

pub unreachable-requires-in_default-split : goal.unreachable-requires-in_default-split
unreachable-requires-in_default-split c =
    let is = begins c.document_start.result.now c.as_str.result.now c.in-Some-strip_prefix.rest.now c.in-Some-strip_prefix.ensures.cases ∙ ap (λ (x : List ℕ). x ++ c.in-Some-strip_prefix.rest.now) c.document_start.ensures in
    let w = document_written c.args.spelling c.document.result c.args.epc c.in-Some-strip_prefix.rest.now c.in-Some.key.bytes c.as_str.result.now c.requires.lawful c.requires.scheme c.document.ensures c.in-Some.ensures.some c.as_str.ensures.value is in
    c.in_default-split.ensures.none _ _ w.splits

pub unreachable-requires-in_default-strip_prefix-2 : goal.unreachable-requires-in_default-strip_prefix-2
unreachable-requires-in_default-strip_prefix-2 c =
    let is = begins c.document_start.result.now c.as_str.result.now c.in-Some-strip_prefix.rest.now c.in-Some-strip_prefix.ensures.cases ∙ ap (λ (x : List ℕ). x ++ c.in-Some-strip_prefix.rest.now) c.document_start.ensures in
    let w = document_written c.args.spelling c.document.result c.args.epc c.in-Some-strip_prefix.rest.now c.in-Some.key.bytes c.as_str.result.now c.requires.lawful c.requires.scheme c.document.ensures c.in-Some.ensures.some c.as_str.ensures.value is in
    let k = coupon_written c.args.spelling _ c.args.epc c.in-Some-strip_prefix.rest.now c.in-Some-split.digits.now c.in-Some-split.last.now c.requires.lawful c.requires.scheme w c.in-Some-split.ensures.some in
    c.in_default-strip_prefix-2.ensures.cases k.serial k.last_is

pub push_str-requires-3 : goal.push_str-requires-3
push_str-requires-3 c =
    let is = begins c.document_start.result.now c.as_str.result.now c.in-Some-strip_prefix.rest.now c.in-Some-strip_prefix.ensures.cases ∙ ap (λ (x : List ℕ). x ++ c.in-Some-strip_prefix.rest.now) c.document_start.ensures in
    let w = document_written c.args.spelling c.document.result c.args.epc c.in-Some-strip_prefix.rest.now c.in-Some.key.bytes c.as_str.result.now c.requires.lawful c.requires.scheme c.document.ensures c.in-Some.ensures.some c.as_str.ensures.value is in
    let k = coupon_written c.args.spelling _ c.args.epc c.in-Some-strip_prefix.rest.now c.in-Some-split.digits.now c.in-Some-split.last.now c.requires.lawful c.requires.scheme w c.in-Some-split.ensures.some in
    let tail = begins (49 ∷ []) c.in-Some-split.last.now c.in-Some-strip_prefix-2.serial.now c.in-Some-strip_prefix-2.ensures.cases in
    let long = ap length tail in
    let told = ap length k.last_is in
    let g = ap length c.gap.ensures in
    let fits : length c.push_str-2.new.self.bytes + length c.in-Some-strip_prefix-2.serial.now ≤ 72 = omega (arith, long, told, g, k.short, k.count, gap_short c.args.spelling, c.push_str.ensures.len, c.push_str-2.ensures.len, c.requires.room) in
    search (rules, fits)

pub returns : goal.returns
returns c =
    let is = begins c.document_start.result.now c.as_str.result.now c.in-Some-strip_prefix.rest.now c.in-Some-strip_prefix.ensures.cases ∙ ap (λ (x : List ℕ). x ++ c.in-Some-strip_prefix.rest.now) c.document_start.ensures in
    let w = document_written c.args.spelling c.document.result c.args.epc c.in-Some-strip_prefix.rest.now c.in-Some.key.bytes c.as_str.result.now c.requires.lawful c.requires.scheme c.document.ensures c.in-Some.ensures.some c.as_str.ensures.value is in
    let k = coupon_written c.args.spelling _ c.args.epc c.in-Some-strip_prefix.rest.now c.in-Some-split.digits.now c.in-Some-split.last.now c.requires.lawful c.requires.scheme w c.in-Some-split.ensures.some in
    let tail = begins (49 ∷ []) c.in-Some-split.last.now c.in-Some-strip_prefix-2.serial.now c.in-Some-strip_prefix-2.ensures.cases in
    let same : k.serial ≡ c.in-Some-strip_prefix-2.serial.now = ap (drop 1) (sym k.last_is ∙ tail) in
    coupon_made c.args.text.now.bytes _ _ _ c.in-Some-split.digits.now c.gap.result.now c.in-Some-strip_prefix-2.serial.now c.push_str.ensures.bytes c.push_str-2.ensures.bytes c.push_str-3.ensures.bytes
    ∙ ap (λ (g : List ℕ). c.args.text.now.bytes ++ (c.in-Some-split.digits.now ++ (g ++ c.in-Some-strip_prefix-2.serial.now))) (c.gap.ensures)
    ∙ ap (λ (x : List ℕ). c.args.text.now.bytes ++ x) (ap (λ (x : List ℕ). c.in-Some-split.digits.now ++ (gap c.args.spelling ++ x)) (sym same) ∙ sym k.number)
