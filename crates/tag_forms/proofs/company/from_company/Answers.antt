use Rattle.tag_forms.proofs.AllLemmas.{neither}
use Rattle.tag_forms.proofs.company.from_company.Goals as goal

pub returns-in-None-clause-none : goal.returns-in-None-clause-none
returns-in-None-clause-none c = λ digits. neither (c.in_default.ensures.none digits) (λ b. c.in-None.ensures.none b.0 digits b.1)
