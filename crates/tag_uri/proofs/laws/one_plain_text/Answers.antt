use Rattle.tag_uri.proofs.DecimalLemmas.{plain_is, only_plain}
use Rattle.tag_uri.proofs.laws.one_plain_text.Goals as goal

pub returns-clause-is : goal.returns-clause-is
returns-clause-is c = plain_is

pub returns-clause-only : goal.returns-clause-only
returns-clause-only c = λ n text h p. only_plain n text h p
