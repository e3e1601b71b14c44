use Rattle.std.proofs.Common.{ℕ, Bool, ◌≡◌, ◌++◌, List, subst, sym, ap, ◌∙◌, arith}
use Rattle.llrp_tree.specs.FirstFault.{number}
use Rattle.llrp_explain.specs.Calls.FaultLines.{taken_lines, tv_fields}
use Rattle.llrp_explain.specs.Calls.HeaderFaults.{refused_text}
use Rattle.llrp_explain.proofs.PrintedLemmas.{four_parts, on_written}
use Rattle.llrp_explain.proofs.RefusedParts.{same_tv}
use Rattle.llrp_explain.proofs.refusals.push_tv_fault.Goals as goal

pub returns : goal.returns
returns c = on_written c.extend_from_slice.result _ _ _ _ c.extend_from_slice.ensures.items
    (λ e rest later is. four_parts _ _ _ _ _ _ _ _ _
    (subst (λ (r : List Bool). c.push_refused_tv.new.text.items ≡ c.args.text.now.items ++ refused_text c.args.place.at (taken_lines c.args.place.depth tv_fields 0 r)) (sym is) (c.in_ok-push_refused_tv.ensures later))
    c.in_ok-push_place.ensures
    (c.in_ok-push_kind_sentence.ensures ∙ ap (λ (x : List ℕ). c.push_place.new.text.items ++ x) (same_tv c.args.place.node.kind c.kind_set.result c.param_of_tv_in-found.result c.handed-number.result rest c.args.place.depth c.args.fault.reason c.param_of_tv_in-found.ensures c.kind_set.ensures (c.handed-number.ensures.value (let w = c.requires.whole in omega (arith, w)) later ∙ ap (λ (r : List Bool). number r 1 7) (sym is))))
    e)
