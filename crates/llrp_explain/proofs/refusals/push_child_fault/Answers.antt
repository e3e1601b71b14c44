use Rattle.std.proofs.Common.{ℕ, ◌++◌, List, length, sym, ap, eqb-true, ◌∙◌, arith}
use Rattle.std.proofs.lemmas.Result.{on_ok_weaker}
use Rattle.llrp_explain.proofs.RefusedNodes.{first_there, rest_is, digit_zero, digit_one, head_there, tv_text, tlv_text}
use Rattle.llrp_explain.proofs.refusals.push_child_fault.Goals as goal

pub returns-then-far : goal.returns-then-far
returns-then-far c = λ b outer rest n d m x. absurd (let s = n.small in let z = c.is_far-far.ensures.yes c.if-far.true in omega (arith, s, z))

pub returns-then-is_empty : goal.returns-then-is_empty
returns-then-is_empty c = λ b outer rest n d m x. absurd (let s = first_there c.args.place.node c.args.place.depth c.args.place.at c.args.octets.now c.args.fault b outer rest n d m x in let none = eqb-true (length c.args.octets.now) 0 (sym c.is_empty.ensures ∙ c.if-is_empty.true) in omega (arith, s, none))

pub returns-then-digit-eq0 : goal.returns-then-digit-eq0
returns-then-digit-eq0 c = on_ok_weaker c.push_tlv_fault.result
    (λ f b outer rest n d m x.
    let there = first_there c.args.place.node c.args.place.depth c.args.place.at c.args.octets.now c.args.fault b outer rest n d m x in
    let zero = digit_zero c.args.place.node c.args.place.depth c.args.place.at c.args.octets.now c.args.fault b outer rest n d m x c.handed-digit.result (c.handed-digit.ensures.value (omega (arith, there))) (omega (arith, c.if-digit-eq0.true)) in
    f rest n.handed.later (rest_is c.args.place.node c.args.place.depth c.args.place.at c.args.octets.now c.args.fault b outer rest n d m x) (head_there c.args.place.node c.args.place.depth c.args.place.at c.args.octets.now c.args.fault b outer rest n d m x zero) ∙ ap (λ (y : List ℕ). c.args.text.now.items ++ y) (tlv_text c.args.place.node c.args.place.depth c.args.place.at c.args.octets.now c.args.fault b outer rest n d m x zero))
    c.push_tlv_fault.ensures

pub returns : goal.returns
returns c = on_ok_weaker c.push_tv_fault.result
    (λ f b outer rest n d m x.
    let there = first_there c.args.place.node c.args.place.depth c.args.place.at c.args.octets.now c.args.fault b outer rest n d m x in
    let one = digit_one c.args.place.node c.args.place.depth c.args.place.at c.args.octets.now c.args.fault b outer rest n d m x c.handed-digit.result (c.handed-digit.ensures.value (omega (arith, there))) (λ z. absurd (omega (arith, z, c.if-digit-eq0.false))) in
    f rest n.handed.later (rest_is c.args.place.node c.args.place.depth c.args.place.at c.args.octets.now c.args.fault b outer rest n d m x) ∙ ap (λ (y : List ℕ). c.args.text.now.items ++ y) (tv_text c.args.place.node c.args.place.depth c.args.place.at c.args.octets.now c.args.fault b outer rest n d m x one))
    c.push_tv_fault.ensures
