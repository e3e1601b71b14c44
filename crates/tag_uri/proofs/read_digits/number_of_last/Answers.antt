use Rattle.std.proofs.Common.{◌≡◌, ℕ, ◌<◌, ◌≤◌, length, get_or, arith, rules}
use Rattle.tag_uri.proofs.LastDigits.{last_digits, no_digits}
use Rattle.tag_uri.proofs.read_digits.number_of_last.Goals as goal

pub returns-then-count-eq0-clause-digits : goal.returns-then-count-eq0-clause-digits
returns-then-count-eq0-clause-digits c =
    let l : length c.args.octets ≡ 8 = search rules in
    rw c.if-count-eq0.true (no_digits c.args.octets l)

pub returns-clause-below : goal.returns-clause-below
returns-clause-below c =
    let l : length c.args.octets ≡ 8 = search rules in
    let fit : (i : ℕ) → get_or c.args.octets i 0 < 256 = search rules in
    let some : 1 ≤ c.args.count = omega (arith, c.if-count-eq0.false) in
    (last_digits c.args.count c.from_be_bytes.result c.in-Some.number c.args.octets some c.requires.few l fit c.from_be_bytes.ensures c.in-Some.ensures.below c.in-Some.ensures.digits).0

pub returns-clause-digits : goal.returns-clause-digits
returns-clause-digits c =
    let l : length c.args.octets ≡ 8 = search rules in
    let fit : (i : ℕ) → get_or c.args.octets i 0 < 256 = search rules in
    let some : 1 ≤ c.args.count = omega (arith, c.if-count-eq0.false) in
    (last_digits c.args.count c.from_be_bytes.result c.in-Some.number c.args.octets some c.requires.few l fit c.from_be_bytes.ensures c.in-Some.ensures.below c.in-Some.ensures.digits).1
