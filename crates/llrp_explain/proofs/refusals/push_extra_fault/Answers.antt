use Rattle.std.proofs.Common.{ℕ, ◌++◌, ap, ◌∙◌}
use Rattle.llrp_explain.specs.Calls.FaultSentences.{extra_sentence}
use Rattle.llrp_explain.proofs.PrintedLemmas.{three_parts, on_written}
use Rattle.llrp_explain.proofs.refusals.push_extra_fault.Goals as goal

pub returns : goal.returns
returns c = on_written c.extend_from_slice.result _ _ _ _ c.extend_from_slice.ensures.items (λ e. three_parts _ _ _ _ _ _ _ c.in_ok-push_place.ensures (c.in_ok-push_extra_sentence.ensures ∙ ap (λ (s : ℕ). c.push_place.new.text.items ++ extra_sentence c.args.place.node.kind s) c.stop_of.ensures) e)
