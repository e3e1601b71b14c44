use Rattle.tag_schemes.proofs.FaultFacts.{scheme_found}
use Rattle.tag_schemes.proofs.read_word.scheme_of.Goals as goal

pub returns : goal.returns
returns c = scheme_found c.args.word c.part-header.result c.scheme_with.result c.scheme_with.ensures c.part-header.ensures.below c.part-header.ensures.digits
