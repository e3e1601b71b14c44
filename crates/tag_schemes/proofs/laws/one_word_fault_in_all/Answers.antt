use Rattle.tag_schemes.proofs.OneFault.{lawful_or_fault, one_fault}
use Rattle.tag_schemes.proofs.laws.one_word_fault_in_all.Goals as goal

pub returns-clause-none_if_lawful : goal.returns-clause-none_if_lawful
returns-clause-none_if_lawful c = lawful_or_fault

pub returns-clause-one : goal.returns-clause-one
returns-clause-one c = one_fault
