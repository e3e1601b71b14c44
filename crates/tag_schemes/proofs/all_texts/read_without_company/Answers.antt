use Rattle.std.proofs.Common.{inl, inr}
use Rattle.tag_schemes.proofs.SupplierTexts.{supplier_is}
use Rattle.tag_schemes.proofs.all_texts.read_without_company.Goals as goal

pub returns-in-Ok-clause-ok : goal.returns-in-Ok-clause-ok
returns-in-Ok-clause-ok c = inr (inl (c.in-Ok.epc, c.word_of_supplier.ensures, supplier_is c.in-Ok.epc c.args.text.now c.in-Some.rest.now c.in-Some.ensures.some c.in-Ok.ensures.ok))
