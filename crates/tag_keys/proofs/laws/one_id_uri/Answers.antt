use Rattle.tag_keys.proofs.IdLaws.{one_id, no_id_fault}
use Rattle.tag_keys.proofs.laws.one_id_uri.Goals as goal

pub returns-clause-one : goal.returns-clause-one
returns-clause-one c = one_id

pub returns-clause-no_fault : goal.returns-clause-no_fault
returns-clause-no_fault c = no_id_fault
