use Rattle.tag_keys.proofs.KeyLaws.{one_key, same_key_text, no_key_fault}
use Rattle.tag_keys.proofs.laws.one_key_text.Goals as goal

pub returns-clause-one : goal.returns-clause-one
returns-clause-one c = one_key

pub returns-clause-same : goal.returns-clause-same
returns-clause-same c = same_key_text

pub returns-clause-no_fault : goal.returns-clause-no_fault
returns-clause-no_fault c = no_key_fault
