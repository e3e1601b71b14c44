use Rattle.std.proofs.Common.{false, inr, refl}
use Rattle.llrp_labels.proofs.LineLemmas.{ends_in_none, no_last}
use Rattle.llrp_labels.proofs.label.push_labelled.Goals as goal

pub returns-in_default : goal.returns-in_default
returns-in_default c = (c.args.line.now, inr ((λ front word h. no_last c.args.line.now front h.text c.in_default.ensures h.last), refl), c.in_ok-extend_from_slice.ensures.items)

pub returns-in_default-word_of : goal.returns-in_default-word_of
returns-in_default-word_of c = (
  c.args.line.now,
  inr ((λ front word h. ends_in_none false c.args.line.now c.in-Some.front.now c.in-Some.last.now front word c.in-Some.ensures c.in_default-word_of.ensures h), refl),
  c.in_ok-extend_from_slice-2.ensures.items,
)
