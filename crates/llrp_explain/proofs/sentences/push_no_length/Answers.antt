use Rattle.llrp_explain.proofs.PrintedLemmas.{three_parts, on_written}
use Rattle.llrp_explain.proofs.sentences.push_no_length.Goals as goal

pub returns : goal.returns
returns c = on_written c.extend_from_slice-2.result _ _ _ _ c.extend_from_slice-2.ensures.items (λ e. three_parts _ _ _ _ _ _ _ c.in_ok-extend_from_slice.ensures.items c.in_ok-push_digits.ensures e)
