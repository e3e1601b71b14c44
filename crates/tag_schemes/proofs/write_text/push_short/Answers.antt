use Rattle.std.proofs.Common.{◌≤◌, ◌+◌, length, ap, arith, rules}
use Rattle.tag_uri.proofs.DecimalLemmas.{plain_short}
use Rattle.tag_schemes.proofs.write_text.push_short.Goals as goal

pub push_str-requires : goal.push_str-requires
push_str-requires c =
    let few = plain_short 11 c.args.number (omega (arith, c.requires.few)) (omega arith) (omega (arith, c.requires.few)) in
    let fits : length c.args.text.now.bytes + length c.format.result.now ≤ 64 = omega (arith, ap length c.format.ensures.text, few, c.requires.room) in
    search (rules, fits)

pub returns-clause-len : goal.returns-clause-len
returns-clause-len c =
    let few = plain_short 11 c.args.number (omega (arith, c.requires.few)) (omega arith) (omega (arith, c.requires.few)) in
    omega (arith, ap length c.format.ensures.text, few, c.push_str.ensures.len)
