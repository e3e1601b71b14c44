use Rattle.llrp_json_read.proofs.SignedTexts.{no_minus_zero}
use Rattle.llrp_json_read.proofs.numbers.bits_below_zero.Goals as goal

pub returns-then-size-eq0 : goal.returns-then-size-eq0
returns-then-size-eq0 c = no_minus_zero c.args.digits.now c.in-Some.size c.if-size-eq0.true c.in-Some.ensures.1
