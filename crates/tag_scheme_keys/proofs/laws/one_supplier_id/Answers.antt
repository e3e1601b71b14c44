use Rattle.tag_scheme_keys.proofs.SupplierIds.{no_supplier_id_fault, one_supplier_id_fault, one_supplier_id_uri}
use Rattle.tag_scheme_keys.proofs.laws.one_supplier_id.Goals as goal

pub returns-clause-one : goal.returns-clause-one
returns-clause-one c = one_supplier_id_uri

pub returns-clause-no_fault : goal.returns-clause-no_fault
returns-clause-no_fault c = no_supplier_id_fault

pub returns-clause-one_fault : goal.returns-clause-one_fault
returns-clause-one_fault c = one_supplier_id_fault
