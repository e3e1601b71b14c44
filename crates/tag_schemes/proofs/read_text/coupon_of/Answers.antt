use Rattle.tag_schemes.proofs.TextFacts.{coupon_is}
use Rattle.tag_schemes.proofs.read_text.coupon_of.Goals as goal

pub returns-clause-lawful : goal.returns-clause-lawful
returns-clause-lawful c = coupon_is c.args.parts c.in-Partitioned.kind _ _ _ _ c.in-Partitioned.last c.in-Partitioned.is c.requires.kind c.requires.serial c.requires.lawful
