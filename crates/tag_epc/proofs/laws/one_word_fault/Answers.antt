use Rattle.tag_epc.proofs.OneFault.{lawful_or_fault, one_word_fault}
use Rattle.tag_epc.proofs.laws.one_word_fault.Goals as goal

pub returns-clause-none_if_lawful : goal.returns-clause-none_if_lawful
returns-clause-none_if_lawful c w f a b = lawful_or_fault w f a b

pub returns-clause-one : goal.returns-clause-one
returns-clause-one c w f g a b = one_word_fault w f g a b
