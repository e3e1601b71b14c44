use Rattle.std.proofs.Common.{◌≡◌, ◌∙◌, arith, filter, drop, List, ◌+◌, ℕ, ap, sym}
use Rattle.llrp_tree.specs.Tree.{Tree}
use Rattle.llrp_operations.specs.Calls.Results as results
use Rattle.llrp_operations.proofs.VerifiedLemmas.{head_at, one_less, passes, skips}
use Rattle.llrp_operations.proofs.verified.result_at.Goals as goal
use Rattle.llrp_operations.proofs.verified.result_at.Goals.{then-is_result+else-left-eq0, else-is_result}

pub returns-then-left-eq0 : goal.returns-then-left-eq0
returns-then-left-eq0 c =
    let ts = c.args.nodes.now in
    let i = c.loop-node.node-index in
    let t = c.node-item.result in
    let is_next = passes ts i t (omega (arith, c.loop-node-test.true)) c.node-item.is (sym c.is_result.ensures ∙ c.if-is_result.true) in
    let left_is : c.loop-node.left ≡ 0 = omega (arith, c.if-left-eq0.true) in
    head_at c.args.place (filter results.is_result ts) (filter results.is_result (drop (i + 1) ts)) t
    (c.loop-node.invariant ∙ ap (λ (n : ℕ). drop n (filter results.is_result (drop i ts))) left_is ∙ is_next)

pub loop-node-preserved : goal.loop-node-preserved
loop-node-preserved c = elim c.if-is_result.branch [
  | then-is_result+else-left-eq0 w ↦
      let ts = c.args.nodes.now in
      let i = c.loop-node.node-index in
      let t = c.node-item.result in
      let is_next = passes ts i t (omega (arith, c.loop-node-test.true)) c.node-item.is (sym c.is_result.ensures ∙ w.if-is_result.true) in
      c.loop-node.invariant ∙ ap (λ (x : List Tree). drop c.loop-node.left x) is_next ∙ one_less c.loop-node.left t (filter results.is_result (drop (i + 1) ts)) (omega (arith, w.if-left-eq0.false))
      ∙ ap (λ (n : ℕ). drop n (filter results.is_result (drop (i + 1) ts))) (sym w.left-is)
  | else-is_result w ↦
      let ts = c.args.nodes.now in
      let i = c.loop-node.node-index in
      let t = c.node-item.result in
      let is_next = skips ts i t (omega (arith, c.loop-node-test.true)) c.node-item.is (sym c.is_result.ensures ∙ w.if-is_result.false) in
      c.loop-node.invariant ∙ ap (λ (x : List Tree). drop c.loop-node.left x) is_next
      ∙ ap (λ (n : ℕ). drop n (filter results.is_result (drop (i + 1) ts))) (sym w.left-is)
]
