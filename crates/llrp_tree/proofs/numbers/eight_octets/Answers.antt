use Rattle.std.proofs.Common.{arith}
use Rattle.llrp_tree.proofs.NumberLemmas.{joined}
use Rattle.llrp_tree.proofs.numbers.eight_octets.Goals as goal

pub returns : goal.returns
returns c = λ later. omega (arith, joined c.args.octets.now later c.args.at 4 4 c.requires, c.four_octets.ensures later, c.four_octets-2.ensures later)
