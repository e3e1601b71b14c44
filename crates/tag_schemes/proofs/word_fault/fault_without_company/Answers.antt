use Rattle.tag_schemes.proofs.FaultFacts.{older_only, supplier_only}
use Rattle.tag_schemes.proofs.word_fault.fault_without_company.Goals as goal

pub returns-in-Err-clause-unlawful : goal.returns-in-Err-clause-unlawful
returns-in-Err-clause-unlawful c = supplier_only c.args.word (c.is_supplier.ensures.0 c.if-is_supplier.true) c.in-Err.ensures.none

pub returns-in-Err-from_word-clause-unlawful : goal.returns-in-Err-from_word-clause-unlawful
returns-in-Err-from_word-clause-unlawful c =
    older_only c.args.word c.requires (λ h. let yes = c.is_supplier.ensures.1 h in let denied = c.if-is_supplier.false in cc)
    (λ lawful. let denied = c.in-Err-from_word.ensures.exactly.1 lawful in cc)
