use Rattle.std.proofs.Common.{◌≤◌, ◌+◌, length, ap, arith, rules}
use Rattle.tag_uri.proofs.DecimalLemmas.{plain_short}
use Rattle.tag_schemes.proofs.write_text.push_serial.Goals as goal

pub push_str-requires-in-Some : goal.push_str-requires-in-Some
push_str-requires-in-Some c =
    let few = plain_short 13 c.args.last (omega (arith, c.requires.bits)) (omega arith) (omega (arith, c.requires.bits)) in
    let (x, before, rest, len) = c.in-Some.ensures.cases in
    let fits : length c.push_str.new.self.bytes + length c.in-Some.serial.now ≤ 64 = omega (arith, before.0, len, ap length c.format.ensures.text, few, c.push_str.ensures.len, c.requires.room) in
    search (rules, fits)
