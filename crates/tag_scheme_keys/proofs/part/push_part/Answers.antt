use Rattle.std.proofs.Common.{◌≤◌, ◌+◌, length, ◌++◌, List, ℕ, ap, ◌∙◌, arith, rules}
use Rattle.tag_scheme_keys.proofs.PartPieces.{mark_short}
use Rattle.tag_scheme_keys.proofs.PlainKeys.{part_cut, part_cut_again, part_written, part_joined}
use Rattle.tag_scheme_keys.proofs.part.push_part.Goals as goal

pub first_of-requires : goal.first_of-requires
first_of-requires c = let three = ap length (part_cut c.args.epc c.without_filter.result.now c.requires.lawful c.requires.scheme c.without_filter.ensures.joined) in omega (arith, three)

pub first_of-requires-2 : goal.first_of-requires-2
first_of-requires-2 c =
    let two = ap length (part_cut_again c.args.epc c.without_filter.result.now c.first_of.result.0.now c.first_of.result.1.now c.requires.lawful c.requires.scheme c.without_filter.ensures.joined c.first_of.ensures) in
    omega (arith, two)

pub push_str-requires : goal.push_str-requires
push_str-requires c =
    let p = part_written c.args.spelling c.args.epc c.without_filter.result.now c.first_of.result.0.now c.first_of.result.1.now c.first_of-2.result.0.now c.first_of-2.result.1.now c.requires.lawful c.requires.scheme c.without_filter.ensures.joined c.first_of.ensures c.first_of-2.ensures in
    let fits : length c.args.text.now.bytes + length c.first_of.result.0.now ≤ 72 = omega (arith, p.company_short, c.requires.room) in
    search (rules, fits)

pub push_str-requires-2 : goal.push_str-requires-2
push_str-requires-2 c =
    let p = part_written c.args.spelling c.args.epc c.without_filter.result.now c.first_of.result.0.now c.first_of.result.1.now c.first_of-2.result.0.now c.first_of-2.result.1.now c.requires.lawful c.requires.scheme c.without_filter.ensures.joined c.first_of.ensures c.first_of-2.ensures in
    let fits : length c.push_str.new.self.bytes + length c.first_of-2.result.0.now ≤ 72 = omega (arith, p.company_short, p.reference_short, c.push_str.ensures.len, c.requires.room) in
    search (rules, fits)

pub push_str-requires-3 : goal.push_str-requires-3
push_str-requires-3 c =
    let p = part_written c.args.spelling c.args.epc c.without_filter.result.now c.first_of.result.0.now c.first_of.result.1.now c.first_of-2.result.0.now c.first_of-2.result.1.now c.requires.lawful c.requires.scheme c.without_filter.ensures.joined c.first_of.ensures c.first_of-2.ensures in
    let mark = ap length c.serial_mark.ensures in
    let fits : length c.push_str-2.new.self.bytes + length c.serial_mark.result.now ≤ 72 = omega (arith, p.company_short, p.reference_short, mark, mark_short c.args.spelling, c.push_str.ensures.len, c.push_str-2.ensures.len, c.requires.room) in
    search (rules, fits)

pub push_str-requires-4 : goal.push_str-requires-4
push_str-requires-4 c =
    let p = part_written c.args.spelling c.args.epc c.without_filter.result.now c.first_of.result.0.now c.first_of.result.1.now c.first_of-2.result.0.now c.first_of-2.result.1.now c.requires.lawful c.requires.scheme c.without_filter.ensures.joined c.first_of.ensures c.first_of-2.ensures in
    let mark = ap length c.serial_mark.ensures in
    let fits : length c.push_str-3.new.self.bytes + length c.first_of-2.result.1.now ≤ 72 = omega (arith, p.company_short, p.reference_short, p.serial_short, mark, mark_short c.args.spelling, c.push_str.ensures.len, c.push_str-2.ensures.len, c.push_str-3.ensures.len, c.requires.room) in
    search (rules, fits)

pub returns : goal.returns
returns c =
    let p = part_written c.args.spelling c.args.epc c.without_filter.result.now c.first_of.result.0.now c.first_of.result.1.now c.first_of-2.result.0.now c.first_of-2.result.1.now c.requires.lawful c.requires.scheme c.without_filter.ensures.joined c.first_of.ensures c.first_of-2.ensures in
    part_joined c.args.text.now.bytes _ _ _ _ c.first_of.result.0.now c.first_of-2.result.0.now c.serial_mark.result.now _ c.first_of-2.result.1.now c.push_str.ensures.bytes c.push_str-2.ensures.bytes c.push_str-3.ensures.bytes c.push_str-4.ensures.bytes c.serial_mark.ensures ∙ ap (λ (x : List ℕ). c.args.text.now.bytes ++ x) p.number
