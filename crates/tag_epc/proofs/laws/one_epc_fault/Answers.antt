use Rattle.tag_epc.proofs.OneFault.{lawful_or_epc_fault, one_epc_fault}
use Rattle.tag_epc.proofs.laws.one_epc_fault.Goals as goal

pub returns-clause-none_if_lawful : goal.returns-clause-none_if_lawful
returns-clause-none_if_lawful c e f a b = lawful_or_epc_fault e f a b

pub returns-clause-one : goal.returns-clause-one
returns-clause-one c e f g a b = one_epc_fault e f g a b
