use Rattle.std.proofs.Common.{ℕ, ◌++◌, List, ap, ◌∙◌, arith}
use Rattle.std.proofs.lemmas.Result.{on_ok_weaker}
use Rattle.llrp_explain.proofs.RefusedNodes.{tail_value, tail_text, first_small}
use Rattle.llrp_explain.proofs.refusals.push_next_tail.Goals as goal

pub returns-then-great : goal.returns-then-great
returns-then-great c = λ b outer rest n d ef first. absurd (let small = first_small c.args.place.node c.args.place.depth c.args.place.at c.args.octets.now c.args.fault b outer rest n in let below = c.tail_count-count.ensures.below (omega (arith, first, small)) in let z = c.is_great-great.ensures.yes c.if-great.true in omega (arith, below, z))

pub returns : goal.returns
returns c = on_ok_weaker c.push_tail_fault.result
    (λ f b outer rest n d ef first. f b.fields rest (tail_value c.args.place.node c.args.place.depth c.args.place.at c.args.octets.now c.args.fault b outer rest n c.args.form c.tail_count-count.result c.args.first ef d c.tail_count-count.ensures.read c.tail_count-count.ensures.field first) ∙ ap (λ (y : List ℕ). c.args.text.now.items ++ y) (tail_text c.args.place.node c.args.place.depth c.args.place.at c.args.octets.now c.args.fault b outer rest n c.args.form ef d))
    c.push_tail_fault.ensures
