use Rattle.tag_schemes.proofs.FaultFacts.{begins}
use Rattle.tag_schemes.proofs.read_word.numbers_of.Goals as goal

pub returns-in_default-clause-none : goal.returns-in_default-clause-none
returns-in_default-clause-none c = λ n h. c.in_default.ensures n.scheme (begins n c.args.word h)
