use Rattle.std.proofs.Common.{rules}
use Rattle.tag_epc.specs.LawfulWord.{IsLawfulWord}
use Rattle.tag_epc.proofs.OneFault.{lawful_or_fault}
use Rattle.tag_epc.proofs.epc.Epc.from_word.Goals as goal

pub returns-in_err-parts-clause-exactly : goal.returns-in_err-parts-clause-exactly
returns-in_err-parts-clause-exactly c =
    let fault = c.in_err-parts.ensures.err in
    let refused = λ (w : IsLawfulWord c.args.word). lawful_or_fault c.args.word c.in_err-parts.field-0.0 w fault in
    (λ ok. search rules, λ w. absurd (refused w))
