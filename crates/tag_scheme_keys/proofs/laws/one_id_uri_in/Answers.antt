use Rattle.tag_scheme_keys.proofs.IdLaws.{one_id_in, no_id_fault_in}
use Rattle.tag_scheme_keys.proofs.OneFault.{one_id_fault_in}
use Rattle.tag_scheme_keys.proofs.laws.one_id_uri_in.Goals as goal

pub returns-clause-one : goal.returns-clause-one
returns-clause-one c = one_id_in

pub returns-clause-no_fault : goal.returns-clause-no_fault
returns-clause-no_fault c = no_id_fault_in

pub returns-clause-one_fault : goal.returns-clause-one_fault
returns-clause-one_fault c = one_id_fault_in
