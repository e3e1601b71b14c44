use Rattle.std.proofs.Common.{sym, arith}
use Rattle.std.proofs.lemmas.Fmt.{decimal_digit}
use Rattle.llrp_listing.proofs.PlaceLemmas.{puts_same}
use Rattle.llrp_listing.proofs.printing.decimal.put_decimal.Goals as goal

pub returns-then-number-lt10-clause-text : goal.returns-then-number-lt10-clause-text
returns-then-number-lt10-clause-text c = puts_same c.put_octet.ensures (sym (decimal_digit c.args.number (omega arith)))
