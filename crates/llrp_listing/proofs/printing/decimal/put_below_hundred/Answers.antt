use Rattle.std.proofs.Common.{sym, ◌∙◌, arith}
use Rattle.std.proofs.lemmas.Fmt.{decimal_digit}
use Rattle.llrp_listing.proofs.DigitLemmas.{as_pair, decimal_two}
use Rattle.llrp_listing.proofs.PlaceLemmas.{puts_same}
use Rattle.llrp_listing.proofs.printing.decimal.put_below_hundred.Goals as goal

pub returns-then-number-lt10 : goal.returns-then-number-lt10
returns-then-number-lt10 c = puts_same c.put_octet.ensures (sym (decimal_digit c.args.number (omega arith)))

pub returns-else-number-lt10 : goal.returns-else-number-lt10
returns-else-number-lt10 c = puts_same c.put_two.ensures (as_pair c.args.number _ (omega arith) c.pair.ensures ∙ sym (decimal_two c.args.number (omega arith) (omega arith)))
