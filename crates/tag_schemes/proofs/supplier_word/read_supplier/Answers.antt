use Rattle.std.proofs.Common.{refl}
use Rattle.tag_schemes.proofs.SupplierFacts.{supplier_read, wrong_read, lawful_or_wrong}
use Rattle.tag_schemes.proofs.supplier_word.read_supplier.Goals as goal

pub returns-in-None-clause-ok : goal.returns-in-None-clause-ok
returns-in-None-clause-ok c =
    supplier_read c.args.word c.part.result c.part-in-None.result c.code_in-code.result c.requires c.part.ensures.below c.part.ensures.digits c.code_in-code.ensures.digits c.code_in-code.ensures.six c.in-None.ensures.none
    c.part-in-None.ensures.below c.part-in-None.ensures.digits

pub returns-in-Some-clause-fault : goal.returns-in-Some-clause-fault
returns-in-Some-clause-fault c =
    wrong_read c.args.word c.in-Some.place _ c.code_in-code.result c.requires c.code_in-code.ensures.digits c.code_in-code.ensures.six c.in-Some.ensures.few c.in-Some.ensures.before c.in-Some.ensures.octet c.in-Some.ensures.wrong refl

pub returns-in-Some-clause-none : goal.returns-in-Some-clause-none
returns-in-Some-clause-none c = λ n h.
    let wrong = wrong_read c.args.word c.in-Some.place _ c.code_in-code.result c.requires c.code_in-code.ensures.digits c.code_in-code.ensures.six c.in-Some.ensures.few c.in-Some.ensures.before c.in-Some.ensures.octet c.in-Some.ensures.wrong refl in
    lawful_or_wrong n c.args.word _ h wrong
