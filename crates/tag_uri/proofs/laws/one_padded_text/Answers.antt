use Rattle.tag_uri.proofs.DecimalLemmas.{padded_is, only_padded}
use Rattle.tag_uri.proofs.laws.one_padded_text.Goals as goal

pub returns-clause-is : goal.returns-clause-is
returns-clause-is c = padded_is

pub returns-clause-only : goal.returns-clause-only
returns-clause-only c = only_padded
