use Rattle.tag_schemes.proofs.SupplierFacts.{scheme_apart}
use Rattle.tag_schemes.proofs.TextLaws.{supplier_apart}
use Rattle.tag_schemes.proofs.laws.suppliers_are_apart.Goals as goal

pub returns-clause-headers : goal.returns-clause-headers
returns-clause-headers c = scheme_apart

pub returns-clause-words : goal.returns-clause-words
returns-clause-words c = supplier_apart
