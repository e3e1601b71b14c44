use Rattle.std.proofs.Common.{ℕ, ◌*◌, ◌≡◌, ◌++◌, List, subst, ap, ◌∙◌}
use Rattle.llrp_explain.specs.Calls.FaultLines.{taken_lines, count_fields}
use Rattle.llrp_explain.specs.Calls.FaultSentences.{tail_sentence, counted}
use Rattle.llrp_explain.specs.Calls.HeaderFaults.{refused_text}
use Rattle.llrp_explain.proofs.PrintedLemmas.{four_parts, on_written}
use Rattle.llrp_explain.proofs.RefusedParts.{same_tail}
use Rattle.llrp_explain.proofs.refusals.push_tail_fault.Goals as goal

pub returns : goal.returns
returns c = on_written c.extend_from_slice.result _ _ _ _ c.extend_from_slice.ensures.items
    (λ e fields rest v. four_parts _ _ _ _ _ _ _ _ _
    (subst (λ (l : ℕ). c.push_refused_count.new.text.items ≡ c.args.text.now.items ++ refused_text c.args.place.at (taken_lines l (count_fields c.args.fault.reason c.args.form) 0 rest)) c.saturating_sub-level.ensures (c.in_ok-push_refused_count.ensures fields rest v))
    c.in_ok-push_place.ensures
    (c.in_ok-push_tail_sentence.ensures ∙ ap (λ (x : List ℕ). c.push_place.new.text.items ++ x) (ap (λ (s : ℕ). tail_sentence c.args.form c.args.place.node.kind s c.args.place.at c.args.fault.reason c.args.count) c.stop_of-stop.ensures ∙ same_tail c.args.fault.reason c.args.form c.args.place.node.kind (8 * c.args.place.node.stop) c.args.place.at c.args.count (counted c.args.form fields rest) v))
    e)
