use Rattle.std.proofs.Common.{ℕ, ◌*◌, ◌≡◌, ◌++◌, List, subst, ap, ◌∙◌}
use Rattle.llrp_schema.specs.Calls.Schema.{field_rule}
use Rattle.llrp_tree.specs.FirstFault.{number}
use Rattle.llrp_explain.specs.Calls.FaultLines.{taken_lines, field_fields}
use Rattle.llrp_explain.specs.Calls.FaultSentences.{field_sentence}
use Rattle.llrp_explain.specs.Calls.HeaderFaults.{refused_text}
use Rattle.llrp_explain.proofs.PrintedLemmas.{four_parts, on_written}
use Rattle.llrp_explain.proofs.RefusedParts.{same_field}
use Rattle.llrp_explain.proofs.refusals.push_field_fault.Goals as goal

pub returns : goal.returns
returns c = on_written c.extend_from_slice.result _ _ _ _ c.extend_from_slice.ensures.items
    (λ e rest v. four_parts _ _ _ _ _ _ _ _ _
    (subst (λ (l : ℕ). c.push_refused_field.new.text.items ≡ c.args.text.now.items ++ refused_text c.args.place.at (taken_lines l (field_fields c.args.fault.reason (field_rule c.args.rule.now)) 0 rest)) c.saturating_sub-level.ensures (c.in_ok-push_refused_field.ensures rest v))
    c.in_ok-push_place.ensures
    (c.in_ok-push_field_sentence.ensures ∙ ap (λ (x : List ℕ). c.push_place.new.text.items ++ x) (ap (λ (s : ℕ). field_sentence (field_rule c.args.rule.now) c.args.place.node.kind s c.args.place.at c.args.fault.reason c.args.value) c.stop_of-stop.ensures ∙ same_field c.args.fault.reason (field_rule c.args.rule.now) c.args.place.node.kind (8 * c.args.place.node.stop) c.args.place.at c.args.value (number rest 0 c.args.rule.now.width) v))
    e)
