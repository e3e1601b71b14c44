use Rattle.tag_schemes.proofs.SupplierFacts.{code_made}
use Rattle.tag_schemes.proofs.supplier_word.code_pushed.Goals as goal

pub returns-clause-digits : goal.returns-clause-digits
returns-clause-digits c =
    code_made c.args.code.now c.args.number c.pushed-one.result c.pushed-two.result c.pushed-three.result c.pushed-four.result c.pushed-five.result c.pushed.result c.told-code
    c.pushed-one.ensures.digits c.pushed-two.ensures.digits c.pushed-three.ensures.digits c.pushed-four.ensures.digits c.pushed-five.ensures.digits c.pushed.ensures.digits
