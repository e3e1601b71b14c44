use Rattle.std.proofs.Common.{◌∙◌, arith}
use Rattle.std.proofs.lemmas.Result.{on_ok_weaker}
use Rattle.llrp_json.proofs.NodeObjects.{is_parent_after, levels_at, levels_below, object_added, one_listed}
use Rattle.llrp_json.proofs.nodes.+nodes.Goals as goal

pub push_node-push_nodes-requires : goal.push_node-push_nodes-requires
push_node-push_nodes-requires t c =
    let same = levels_below c.as_slice.result.now c.args.node.now.children (c.as_slice.ensures ∙ c.children.ensures) in
    (omega (arith, same), tt)

pub push_node-returns : goal.push_node-returns
push_node-returns t c =
    on_ok_weaker c.push_end.result
    (λ e. object_added c.args.node.now c.as_slice.result.now c.in_ok-is_parent.is_parent c.args.text.now _ _ _ (c.as_slice.ensures ∙ c.children.ensures) c.in_ok-is_parent.ensures.parent c.in_ok-push_own_members.ensures c.in_ok-is_parent.ensures.texts e)
    c.push_end.ensures

pub push_nodes-push_node-requires : goal.push_nodes-push_node-requires
push_nodes-push_node-requires t c =
    let below = levels_at c.args.nodes.now c.loop-node.node-index c.node-item.result c.node-item.result c.loop-node-test.true c.node-item.is in
    (omega (arith, below), tt)

pub push_nodes-loop-node-preserved : goal.push_nodes-loop-node-preserved
push_nodes-loop-node-preserved t c = record {
  known = is_parent_after c.args.nodes.now c.loop-node.node-index c.node-item.result c.loop-node-test.true c.node-item.is;
  texts = one_listed c.args.nodes.now c.loop-node.node-index c.node-item.result c.args.text.now c.loop-node.text _ _ c.loop-node.is_parent c.loop-node-test.true c.node-item.is c.loop-node.invariant.known c.loop-node.invariant.texts c.in_ok-push_separator.ensures c.in_ok-push_node.ensures;
}
