use Rattle.std.proofs.Common.{inr, refl}
use Rattle.llrp_labels.proofs.TagLemmas.{no_blank, no_word}
use Rattle.llrp_labels.proofs.tags.push_words.Goals as goal

pub returns-in_default : goal.returns-in_default
returns-in_default c = (c.args.line.now, inr ((λ text rest word h is. no_blank c.args.line.now text rest word c.in_default.ensures h is), refl), c.in_ok-extend_from_slice.ensures.items)

pub returns-in_default-word_of : goal.returns-in_default-word_of
returns-in_default-word_of c = (
  c.args.line.now,
  inr ((λ text rest word h is. no_word c.args.line.now c.in-Some.text.now c.in-Some.rest.now text rest word c.in-Some.ensures c.in_default-word_of.ensures h is), refl),
  c.in_ok-extend_from_slice-2.ensures.items,
)
