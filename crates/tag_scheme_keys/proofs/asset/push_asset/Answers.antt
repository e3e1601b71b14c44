use Rattle.std.proofs.Common.{◌≤◌, ◌+◌, length, ◌++◌, List, ℕ, ap, ◌∙◌, arith, rules}
use Rattle.std.proofs.lemmas.List.{append_assoc}
use Rattle.tag_scheme_keys.proofs.PlainKeys.{asset_cut, asset_pieces}
use Rattle.tag_scheme_keys.proofs.asset.push_asset.Goals as goal

pub first_of-requires : goal.first_of-requires
first_of-requires c = let two = ap length (asset_cut c.args.epc c.without_filter.result.now c.requires.lawful c.requires.scheme c.without_filter.ensures.joined) in omega (arith, two)

pub push_str-requires : goal.push_str-requires
push_str-requires c =
    let p = asset_pieces c.args.spelling c.args.epc c.without_filter.result.now c.first_of.result.0.now c.first_of.result.1.now c.requires.lawful c.requires.scheme c.without_filter.ensures.joined c.first_of.ensures in
    let fits : length c.args.text.now.bytes + length c.first_of.result.0.now ≤ 72 = omega (arith, p.company_short, c.requires.room) in
    search (rules, fits)

pub push_str-requires-2 : goal.push_str-requires-2
push_str-requires-2 c =
    let p = asset_pieces c.args.spelling c.args.epc c.without_filter.result.now c.first_of.result.0.now c.first_of.result.1.now c.requires.lawful c.requires.scheme c.without_filter.ensures.joined c.first_of.ensures in
    let fits : length c.push_str.new.self.bytes + length c.first_of.result.1.now ≤ 72 = omega (arith, p.company_short, p.reference_short, c.push_str.ensures.len, c.requires.room) in
    search (rules, fits)

pub returns : goal.returns
returns c =
    let p = asset_pieces c.args.spelling c.args.epc c.without_filter.result.now c.first_of.result.0.now c.first_of.result.1.now c.requires.lawful c.requires.scheme c.without_filter.ensures.joined c.first_of.ensures in
    c.push_str-2.ensures.bytes ∙ ap (λ (x : List ℕ). x ++ c.first_of.result.1.now) c.push_str.ensures.bytes ∙ append_assoc c.args.text.now.bytes c.first_of.result.0.now c.first_of.result.1.now ∙ ap (λ (x : List ℕ). c.args.text.now.bytes ++ x) p.number
