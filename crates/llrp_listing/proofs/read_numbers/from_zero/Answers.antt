use Rattle.std.proofs.Common.{sym, arith}
use Rattle.llrp_listing.proofs.NumberWords.{positive_none, positive_other, positive_read}
use Rattle.llrp_listing.proofs.read_numbers.from_zero.Goals as goal

pub returns-in_default : goal.returns-in_default
returns-in_default c = positive_none c.args.digits.now (sym c.in_default.ensures)

pub returns-then-number-gt127 : goal.returns-then-number-gt127
returns-then-number-gt127 c = positive_other c.args.digits.now c.in-Some.number (sym c.in-Some.ensures) (omega arith)

pub returns : goal.returns
returns c = positive_read c.args.digits.now c.in-Some.number (sym c.in-Some.ensures) (omega arith)
