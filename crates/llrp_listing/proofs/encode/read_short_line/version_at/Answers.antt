use Rattle.std.proofs.Common.{arith}
use Rattle.llrp_listing.proofs.NamedLines.{three_octets}
use Rattle.llrp_listing.proofs.encode.read_short_line.version_at.Goals as goal

pub returns-clause-digits : goal.returns-clause-digits
returns-clause-digits c = three_octets c.args.line.now c.args.at _ _ _ (omega (arith, c.requires, c.if-line-at-lt3.false)) c.if-line-at-ne32.false c.in_ok-version.ensures.digit c.if-line-at-ne32-2.false
