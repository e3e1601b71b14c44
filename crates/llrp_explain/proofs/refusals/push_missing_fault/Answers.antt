use Rattle.llrp_explain.proofs.PrintedLemmas.{three_parts, on_written}
use Rattle.llrp_explain.proofs.refusals.push_missing_fault.Goals as goal

pub returns : goal.returns
returns c = on_written c.extend_from_slice.result _ _ _ _ c.extend_from_slice.ensures.items (λ e children seen. three_parts _ _ _ _ _ _ _ c.in_ok-push_place.ensures (c.in_ok-push_missing_sentence.ensures children seen) e)
