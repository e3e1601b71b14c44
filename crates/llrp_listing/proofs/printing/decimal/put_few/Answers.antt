use Rattle.std.proofs.Common.{sym, ◌∙◌, arith, ap, ◌≡◌, ◌++◌, ◌/◌, ◌%◌, length}
use Rattle.std.specs.Prelude.{decimal}
use Rattle.llrp_listing.proofs.DigitLemmas.{as_pair, decimal_pair, short_two}
use Rattle.llrp_listing.proofs.PlaceLemmas.{two_puts, puts_same}
use Rattle.llrp_listing.proofs.printing.decimal.put_few.Goals as goal

pub returns-then-number-lt100-clause-most : goal.returns-then-number-lt100-clause-most
returns-then-number-lt100-clause-most c = omega (arith, c.put_below_hundred.ensures.ends, short_two c.args.number c.if-number-lt100.true)

pub put_two-requires : goal.put_two-requires
put_two-requires c = omega (arith, c.put_below_hundred-lower_at.ensures.ends, short_two (c.args.number / 100) (omega arith))

pub returns-clause-text : goal.returns-clause-text
returns-clause-text c = puts_same (two_puts c.put_below_hundred-lower_at.ensures c.put_two.ensures) (ap (λ x. decimal (c.args.number / 100) ++ x) (as_pair (c.args.number % 100) _ (omega arith) c.pair.ensures) ∙ sym (decimal_pair c.args.number (omega arith) (omega arith)))

pub returns-clause-most : goal.returns-clause-most
returns-clause-most c =
    let two : length c.pair.result ≡ 2 = ap length (as_pair (c.args.number % 100) _ (omega arith) c.pair.ensures) in
    omega (arith, c.put_below_hundred-lower_at.ensures.ends, short_two (c.args.number / 100) (omega arith), c.put_two.ensures.ends, two)
