use Rattle.tag_scheme_keys.proofs.supplier_id.supplier_id_in_front.Goals as goal

pub returns-in-None-clause-none : goal.returns-in-None-clause-none
returns-in-None-clause-none c = λ rest b. c.in-None.ensures.cases rest b.begins
