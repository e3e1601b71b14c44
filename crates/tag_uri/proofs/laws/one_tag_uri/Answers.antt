use Rattle.tag_uri.proofs.TextLaws.{one_uri, no_fault}
use Rattle.tag_uri.proofs.laws.one_tag_uri.Goals as goal

pub returns-clause-one : goal.returns-clause-one
returns-clause-one c = one_uri

pub returns-clause-no_fault : goal.returns-clause-no_fault
returns-clause-no_fault c = no_fault
