use Rattle.std.proofs.Common.{ℕ, Bool, ◌*◌, ◌≡◌, ◌++◌, List, subst, sym, ap, ◌∙◌, inl, inr}
use Rattle.llrp_tree.specs.FirstFault.{number}
use Rattle.llrp_explain.specs.Calls.FaultLines.{taken_lines, tlv_fields}
use Rattle.llrp_explain.specs.Calls.FaultSentences.{tlv_sentence}
use Rattle.llrp_explain.specs.Calls.HeaderFaults.{refused_text}
use Rattle.llrp_explain.proofs.PrintedLemmas.{four_parts, on_written}
use Rattle.llrp_explain.proofs.RefusedParts.{same_tlv}
use Rattle.llrp_explain.proofs.refusals.push_tlv_fault.Goals as goal

pub returns : goal.returns
returns c = on_written c.extend_from_slice.result _ _ _ _ c.extend_from_slice.ensures.items
    (λ e rest later is w. four_parts _ _ _ _ _ _ _ _ _
    (subst (λ (r : List Bool). c.push_refused_tlv.new.text.items ≡ c.args.text.now.items ++ refused_text c.args.place.at (taken_lines c.args.place.depth (tlv_fields c.args.fault.reason) 0 r)) (sym is) (c.in_ok-push_refused_tlv.ensures later w))
    c.in_ok-push_place.ensures
    (c.in_ok-push_tlv_sentence.ensures ∙ ap (λ (x : List ℕ). c.push_place.new.text.items ++ x)
    (ap (λ (s : ℕ). tlv_sentence c.param_of_tlv_in-found.result c.args.place.node.kind s c.args.place.at c.args.place.depth c.args.fault.reason c.long_head-head.result.reserved c.long_head-head.result.type_number c.long_head-head.result.octets) c.stop_of-stop.ensures
    ∙ same_tlv c.args.fault.reason c.args.place.node.kind c.kind_set.result (8 * c.args.place.node.stop) c.args.place.at c.args.place.depth c.param_of_tlv_in-found.result c.long_head-head.result.reserved c.long_head-head.result.type_number c.long_head-head.result.octets rest c.param_of_tlv_in-found.ensures c.kind_set.ensures
    (elim w [
      | inl s ↦ inl s
      | inr four ↦ inr (
        c.long_head-head.ensures.reserved four later ∙ ap (λ (r : List Bool). number r 0 6) (sym is),
        c.long_head-head.ensures.type_number four later ∙ ap (λ (r : List Bool). number r 6 10) (sym is),
        c.long_head-head.ensures.octets four later ∙ ap (λ (r : List Bool). number r 16 16) (sym is),
      )
    ])))
    e)
