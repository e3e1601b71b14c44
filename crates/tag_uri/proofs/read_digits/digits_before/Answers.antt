use Rattle.std.proofs.Common.{◌≡◌, ◌-◌, ◌≤◌, length, arith, rules}
use Rattle.tag_uri.proofs.LastDigits.{last_in_front, more_in_front, more_below}
use Rattle.tag_uri.proofs.read_digits.digits_before.Goals as goal

pub returns-then-count-le8-clause-digits : goal.returns-then-count-le8-clause-digits
returns-then-count-le8-clause-digits c =
    let l : length c.eight_before.result ≡ 8 = search rules in
    last_in_front c.args.count c.in-Some.number c.args.end c.args.text.now c.eight_before.result c.if-count-le8.true c.requires.eight l c.eight_before.ensures c.in-Some.ensures.digits

pub returns-clause-below : goal.returns-clause-below
returns-clause-below c =
    let some : 8 ≤ c.args.count = omega (arith, c.if-count-le8.false) in
    more_below c.args.count c.in-Some-number_of_last-2.upper c.in-Some-number_of_last.lower some c.in-Some-number_of_last.ensures.below c.in-Some-number_of_last-2.ensures.below

pub returns-clause-digits : goal.returns-clause-digits
returns-clause-digits c =
    let some : 8 ≤ c.args.count = omega (arith, c.if-count-le8.false) in
    let l : length c.eight_before-2.result ≡ 8 = search rules in
    let m : length c.eight_before-3.result ≡ 8 = search rules in
    let lower = last_in_front 8 c.in-Some-number_of_last.lower c.args.end c.args.text.now c.eight_before-2.result (omega arith) c.requires.eight l c.eight_before-2.ensures c.in-Some-number_of_last.ensures.digits in
    let upper = last_in_front (c.args.count - 8) c.in-Some-number_of_last-2.upper (c.args.end - 8) c.args.text.now c.eight_before-3.result (omega (arith, c.requires.few)) (omega (arith, c.requires.ahead, some)) m c.eight_before-3.ensures c.in-Some-number_of_last-2.ensures.digits in
    more_in_front c.args.count c.in-Some-number_of_last-2.upper c.in-Some-number_of_last.lower c.args.end c.args.text.now some (omega (arith, c.requires.ahead)) c.in-Some-number_of_last.ensures.below lower upper
