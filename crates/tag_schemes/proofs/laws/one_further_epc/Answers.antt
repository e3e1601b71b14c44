use Rattle.tag_schemes.proofs.SetFacts.{one_word, one_epc}
use Rattle.tag_schemes.proofs.laws.one_further_epc.Goals as goal

pub returns-clause-one_word : goal.returns-clause-one_word
returns-clause-one_word c = one_word

pub returns-clause-one_epc : goal.returns-clause-one_epc
returns-clause-one_epc c = one_epc
