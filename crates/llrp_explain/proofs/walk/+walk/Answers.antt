use Rattle.std.proofs.Common.{[], refl, ◌+◌, ap, ◌∙◌, arith}
use Rattle.llrp_schema.specs.declared.kinds.ParamKind.{ParamKind}
use Rattle.llrp_schema.specs.declared.kinds.Kind.TheVariants.{Parameter}
use Rattle.llrp_schema.specs.Schema.{fields_of, tail_of}
use Rattle.llrp_explain.proofs.WalkLemmas.{node_added, no_trees, trees_more, member_levels, children_levels}
use Rattle.llrp_explain.proofs.walk.+walk.Goals as goal

pub push_node-push_nodes-requires : goal.push_node-push_nodes-requires
push_node-push_nodes-requires t c =
    let same = children_levels c.as_slice-2.result.now c.args.node.now.children (c.as_slice-2.ensures ∙ c.children.ensures) in
    (omega (arith, c.decreases, same), omega (arith, c.requires.deep, same))

pub push_node-returns : goal.push_node-returns
push_node-returns t c =
    node_added c.push_nodes.result c.args.node.now c.args.level c.length.result (c.args.level + 1) c.kind-2.result _ c.fields-2.result.now c.as_slice.result.now c.tail.result c.as_slice-2.result.now c.args.lines.now c.push_head.new.lines c.push_fields.new.lines c.push_tail.new.lines c.push_nodes.new.lines
    c.kind-2.ensures c.length.ensures (c.fields.ensures ∙ ap (λ (k : ParamKind). fields_of (Parameter k)) c.kind.ensures) c.fields-2.ensures (c.tail.ensures ∙ ap (λ (k : ParamKind). tail_of (Parameter k)) c.kind.ensures) (c.as_slice.ensures.value ∙ c.tail-2.ensures) (c.as_slice-2.ensures ∙ c.children.ensures)
    (omega arith) c.in_ok-push_head.ensures c.in_ok-push_fields.ensures c.in_ok-push_tail.ensures c.push_nodes.ensures

pub push_nodes-loop-node-init : goal.push_nodes-loop-node-init
push_nodes-loop-node-init t c = no_trees c.args.level [] c.args.lines.now refl

pub push_nodes-push_node-requires : goal.push_nodes-push_node-requires
push_nodes-push_node-requires t c =
    let below = member_levels c.args.nodes.now c.loop-node.node-index c.node-item.result c.node-item.result c.loop-node-test.true c.node-item.is in
    (omega (arith, c.decreases, below), omega (arith, c.requires.deep, below))

pub push_nodes-loop-node-preserved : goal.push_nodes-loop-node-preserved
push_nodes-loop-node-preserved t c =
    trees_more c.args.level c.loop-node.node-index c.args.nodes.now c.node-item.result c.args.lines.now c.loop-node.lines c.push_node.new.lines c.loop-node-test.true c.node-item.is c.loop-node.invariant c.in_ok-push_node.ensures
