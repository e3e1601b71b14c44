use Rattle.std.proofs.Common.{sym, arith}
use Rattle.llrp_listing.proofs.DigitLemmas.{decimal_eight}
use Rattle.llrp_listing.proofs.PlaceLemmas.{two_puts, puts_same}
use Rattle.llrp_listing.proofs.printing.decimal.put_long.Goals as goal

pub returns-clause-text : goal.returns-clause-text
returns-clause-text c =
    puts_same (two_puts c.put_upper-low_at.ensures.text c.put_eight_digits.ensures.text) (sym (decimal_eight c.args.number c.requires.long (omega arith)))
