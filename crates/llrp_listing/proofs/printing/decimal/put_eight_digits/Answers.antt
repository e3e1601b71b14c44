use Rattle.std.proofs.Common.{ap, ◌∙◌, ◌-◌, ◌*◌, ◌/◌, ◌%◌, arith, length, ◌≡◌}
use Rattle.llrp_listing.proofs.DigitLemmas.{as_pair, eight_pairs, pair_of}
use Rattle.llrp_listing.proofs.PlaceLemmas.{two_puts, puts_same}
use Rattle.llrp_listing.proofs.printing.decimal.put_eight_digits.Goals as goal

pub returns-clause-text : goal.returns-clause-text
returns-clause-text c =
    let n = c.args.number in
    let a = c.hundreds-first.ensures in
    let b = c.hundreds-third.ensures in
    let second : n / 10000 - 100 * c.hundreds-first.result ≡ n / 10000 % 100 = omega (arith, a) in
    let fourth : n % 10000 - 100 * c.hundreds-third.result ≡ n % 10000 % 100 = omega (arith, b) in
    puts_same (two_puts (two_puts (two_puts c.put_two-second_at.ensures c.put_two-third_at.ensures) c.put_two-fourth_at.ensures) c.put_two.ensures)
    (eight_pairs n _ _ _ _ c.requires.fits (as_pair _ _ (omega arith) c.pair.ensures ∙ ap pair_of a) (as_pair _ _ (omega arith) c.pair-2.ensures ∙ ap pair_of second) (as_pair _ _ (omega arith) c.pair-3.ensures ∙ ap pair_of b) (as_pair _ _ (omega arith) c.pair-4.ensures ∙ ap pair_of fourth))

pub returns-clause-ends : goal.returns-clause-ends
returns-clause-ends c =
    let ab = ap length c.pair.ensures in
    let cd = ap length c.pair-2.ensures in
    let ef = ap length c.pair-3.ensures in
    let gh = ap length c.pair-4.ensures in
    omega (arith, c.put_two-second_at.ensures.ends, c.put_two-third_at.ensures.ends, c.put_two-fourth_at.ensures.ends, c.put_two.ensures.ends, ab, cd, ef, gh)
