use Rattle.std.proofs.Common.{arith}
use Rattle.llrp_tree.proofs.NumberLemmas.{joined}
use Rattle.llrp_tree.proofs.numbers.twelve_octets.Goals as goal

pub returns-clause-value : goal.returns-clause-value
returns-clause-value c = λ later. omega (arith, joined c.args.octets.now later c.args.at 8 4 c.requires, c.eight_octets.ensures later, c.four_octets.ensures later)
