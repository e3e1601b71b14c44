use Rattle.std.proofs.Common.{sym, arith}
use Rattle.llrp_listing.proofs.NumberWords.{negative_none, negative_other, negative_read}
use Rattle.llrp_listing.proofs.read_numbers.below_zero.Goals as goal

pub returns-in_default : goal.returns-in_default
returns-in_default c = negative_none c.args.digits.now (sym c.in_default.ensures)

pub returns-then-size-eq0 : goal.returns-then-size-eq0
returns-then-size-eq0 c = negative_other c.args.digits.now c.in-Some.size (sym c.in-Some.ensures) (λ some few. absurd (omega (arith, c.then-size-eq0.either)))

pub returns : goal.returns
returns c = negative_read c.args.digits.now c.in-Some.size (sym c.in-Some.ensures) (omega arith) (omega arith)
