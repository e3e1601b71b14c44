use Rattle.tag_uri.proofs.HexadecimalLemmas.{eight_of}
use Rattle.tag_uri.proofs.raw_uri.eight_digits.Goals as goal

pub returns : goal.returns
returns c = eight_of c.args.number _ _ _ _ _ _ _ _ c.digit.ensures c.digit-2.ensures c.digit-3.ensures c.digit-4.ensures c.digit-5.ensures c.digit-6.ensures c.digit-7.ensures c.digit-8.ensures
