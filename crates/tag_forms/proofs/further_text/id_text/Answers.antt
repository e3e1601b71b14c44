use Rattle.tag_forms.proofs.AllLemmas.{neither}
use Rattle.tag_forms.proofs.further_text.id_text.Goals as goal

pub returns-in-None : goal.returns-in-None
returns-in-None c = λ text. neither (λ k. c.in_default.ensures.none k.0 k.1) (λ k. c.in-None.ensures.none k.0 k.1)
