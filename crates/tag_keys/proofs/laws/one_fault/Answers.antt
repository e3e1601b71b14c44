use Rattle.tag_keys.proofs.OneFault.{one_id_fault, one_key_fault}
use Rattle.tag_keys.proofs.laws.one_fault.Goals as goal

pub returns-clause-id : goal.returns-clause-id
returns-clause-id c = one_id_fault

pub returns-clause-key : goal.returns-clause-key
returns-clause-key c = one_key_fault
