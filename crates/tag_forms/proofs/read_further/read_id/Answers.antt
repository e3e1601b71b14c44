use Rattle.tag_forms.proofs.AllLemmas.{neither}
use Rattle.tag_forms.proofs.read_further.read_id.Goals as goal

pub returns-in-None : goal.returns-in-None
returns-in-None c = neither (λ b. c.in_default.ensures.none b.0 b.1 b.2) (λ b. c.in-None.ensures.none b.0 b.1)
