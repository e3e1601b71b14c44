use Rattle.tag_schemes.proofs.TextLaws.{not_further}
use Rattle.tag_schemes.proofs.all_texts.is_further.Goals as goal

pub returns-in-None : goal.returns-in-None
returns-in-None c = (λ no_one. cc, λ further. absurd (not_further c.args.word c.in_default.ensures.none c.in-None.ensures.none further))
