use Rattle.std.proofs.Common.{ap, ◌∙◌, ◌-◌, drop, arith}
use Rattle.tag_uri.proofs.WritingLemmas.{more_digits}
use Rattle.llrp_listing.proofs.DigitLemmas.{last_digits}
use Rattle.llrp_listing.proofs.PlaceLemmas.{puts_same}
use Rattle.llrp_listing.proofs.printing.decimal.put_short.Goals as goal

pub returns-clause-text : goal.returns-clause-text
returns-clause-text c =
    puts_same c.put_last.ensures (ap (λ x. drop (8 - c.count_of_few.result) x) c.eight.ensures ∙ last_digits c.args.number c.count_of_few.result (omega arith) c.count_of_few.ensures.count (omega (arith, c.count_of_few.ensures.few)))

pub returns-then-number-ge10000000-clause-text : goal.returns-then-number-ge10000000-clause-text
returns-then-number-ge10000000-clause-text c =
    puts_same c.put_eight_digits.ensures.text (last_digits c.args.number 8 (omega arith) (more_digits 7 c.args.number (omega arith) (omega arith) (omega arith) (omega arith)) (omega arith))
