use Rattle.std.proofs.Common.{arith}
use Rattle.llrp_listing.proofs.DigitLemmas.{as_pair, eight_of}
use Rattle.llrp_listing.proofs.printing.decimal.eight.Goals as goal

pub returns : goal.returns
returns c = eight_of c.args.number c.pair.result c.pair-2.result c.pair-3.result c.pair-4.result c.requires (as_pair _ _ (omega arith) c.pair.ensures) (as_pair _ _ (omega arith) c.pair-2.ensures) (as_pair _ _ (omega arith) c.pair-3.ensures) (as_pair _ _ (omega arith) c.pair-4.ensures)
