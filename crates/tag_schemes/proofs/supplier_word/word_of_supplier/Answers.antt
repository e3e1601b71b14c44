use Rattle.tag_schemes.proofs.SupplierFacts.{supplier_made}
use Rattle.tag_schemes.proofs.supplier_word.word_of_supplier.Goals as goal

pub returns : goal.returns
returns c =
    supplier_made c.args.epc c.pushed-header.result c.pushed-filter.result c.code_pushed-code.result c.pushed-number.result c.in-Some.word c.requires
    c.pushed-header.ensures.digits c.pushed-filter.ensures.digits c.code_pushed-code.ensures.digits c.pushed-number.ensures.digits c.in-Some.ensures.number
