use Rattle.std.proofs.Common.{arith}
use Rattle.llrp_listing.proofs.DigitLemmas.{short_two}
use Rattle.llrp_listing.proofs.PlaceLemmas.{two_puts}
use Rattle.llrp_listing.proofs.printing.lines.put_level.Goals as goal

pub put_octet-requires : goal.put_octet-requires
put_octet-requires c = omega (arith, c.requires.room, c.put_below_hundred-space_at.ensures.ends, short_two c.args.level (omega (arith, c.requires.deep)))

pub returns-clause-text : goal.returns-clause-text
returns-clause-text c = two_puts c.put_below_hundred-space_at.ensures c.put_octet.ensures

pub returns-clause-most : goal.returns-clause-most
returns-clause-most c = omega (arith, c.put_below_hundred-space_at.ensures.ends, short_two c.args.level (omega (arith, c.requires.deep)), c.put_octet.ensures.ends)
