use Rattle.std.proofs.Common.{inr}
use Rattle.tag_schemes.proofs.TextLaws.{not_further}
use Rattle.tag_schemes.proofs.all_texts.text_without_company.Goals as goal

pub returns-in-None : goal.returns-in-None
returns-in-None c = inr (inr (not_further c.args.word c.requires c.in-None.ensures.none, c.text_of_word.ensures))
