use Rattle.tag_forms.proofs.further_text.key_text.Goals as goal

pub returns-in-None : goal.returns-in-None
returns-in-None c = λ text k. c.in-None.ensures.none k.0 k.1
