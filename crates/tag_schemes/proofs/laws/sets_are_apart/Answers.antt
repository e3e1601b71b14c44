use Rattle.tag_schemes.proofs.SetFacts.{sets_apart}
use Rattle.tag_schemes.proofs.SupplierFacts.{kind_apart, older_apart, supplier_begins}
use Rattle.tag_schemes.proofs.laws.sets_are_apart.Goals as goal

pub returns-clause-words : goal.returns-clause-words
returns-clause-words c = sets_apart

pub returns-clause-supplier_headers : goal.returns-clause-supplier_headers
returns-clause-supplier_headers c = kind_apart

pub returns-clause-supplier_words : goal.returns-clause-supplier_words
returns-clause-supplier_words c = λ d e w a b. older_apart d w a (supplier_begins e w b)
