use Rattle.tag_uri.proofs.EightDigits.{tested, joined_below, joined_digits}
use Rattle.tag_uri.proofs.read_digits.number_of_eight.Goals as goal

pub returns-clause-below : goal.returns-clause-below
returns-clause-below c = joined_below c.args.digits (tested c.args.digits c.ranges.digits.fits c.if-digits-ne0.false c.if-more-ne0.false)

pub returns-clause-digits : goal.returns-clause-digits
returns-clause-digits c = joined_digits c.args.digits (tested c.args.digits c.ranges.digits.fits c.if-digits-ne0.false c.if-more-ne0.false)
