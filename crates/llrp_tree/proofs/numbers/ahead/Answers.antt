use Rattle.std.proofs.Common.{◌∙◌}
use Rattle.llrp_tree.proofs.HeaderLemmas.{number_ahead}
use Rattle.llrp_tree.proofs.numbers.ahead.Goals as goal

pub returns-clause-value : goal.returns-clause-value
returns-clause-value c = λ later. c.get.ensures.value ∙ number_ahead c.args.octets.now later c.args.place c.args.width c.requires.within
