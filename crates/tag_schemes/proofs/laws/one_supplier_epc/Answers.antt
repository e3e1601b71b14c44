use Rattle.tag_schemes.proofs.SupplierFacts.{one_supplier, one_supplier_word}
use Rattle.tag_schemes.proofs.laws.one_supplier_epc.Goals as goal

pub returns-clause-one_word : goal.returns-clause-one_word
returns-clause-one_word c = one_supplier_word

pub returns-clause-one_epc : goal.returns-clause-one_epc
returns-clause-one_epc c = one_supplier
