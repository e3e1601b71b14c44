use Rattle.tag_uri.proofs.TextLaws.{one_tag_fault, one_fault}
use Rattle.tag_uri.proofs.laws.one_fault.Goals as goal

pub returns-clause-tag : goal.returns-clause-tag
returns-clause-tag c = one_tag_fault

pub returns-clause-any : goal.returns-clause-any
returns-clause-any c = one_fault
