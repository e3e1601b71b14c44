use Rattle.tag_schemes.proofs.supplier_text.supplier_in_front.Goals as goal

pub returns-in-None-clause-none : goal.returns-in-None-clause-none
returns-in-None-clause-none c = λ rest b. c.in-None.ensures.cases rest b.begins
