use Rattle.tag_scheme_keys.proofs.KeyLaws.{one_key_in}
use Rattle.tag_scheme_keys.proofs.KeyFaultLaws.{no_key_fault_in}
use Rattle.tag_scheme_keys.proofs.OneKeyFault.{one_key_fault_in}
use Rattle.tag_scheme_keys.proofs.laws.one_key_text_in.Goals as goal

pub returns-clause-one : goal.returns-clause-one
returns-clause-one c = one_key_in

pub returns-clause-no_fault : goal.returns-clause-no_fault
returns-clause-no_fault c = no_key_fault_in

pub returns-clause-one_fault : goal.returns-clause-one_fault
returns-clause-one_fault c = one_key_fault_in
