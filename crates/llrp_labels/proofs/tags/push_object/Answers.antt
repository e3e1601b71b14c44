use Rattle.std.proofs.Common.{inr, refl}
use Rattle.llrp_labels.proofs.TagLemmas.{no_word_in}
use Rattle.llrp_labels.proofs.tags.push_object.Goals as goal

pub returns-in_default : goal.returns-in_default
returns-in_default c = (c.args.line.now, inr ((λ text rest word h is. c.in_default.ensures text rest h), refl), c.in_ok-extend_from_slice.ensures.items)

pub returns-in_default-word_of : goal.returns-in_default-word_of
returns-in_default-word_of c = (
  c.args.line.now,
  inr ((λ text rest word h is. no_word_in c.args.line.now c.in-Some.text.now c.in-Some.rest.now text rest word c.in-Some.ensures c.in_default-word_of.ensures h is), refl),
  c.in_ok-extend_from_slice-2.ensures.items,
)
