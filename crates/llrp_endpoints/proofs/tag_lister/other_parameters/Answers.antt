use Rattle.llrp_endpoints.proofs.TagListing.{no_other, none_by, one_other}
use Rattle.llrp_endpoints.proofs.tag_lister.other_parameters.Goals.{then-is_none+in_ok-try_clone+in_ok-push, else-is_none}
use Rattle.llrp_endpoints.proofs.tag_lister.other_parameters.Goals as goal

pub loop-node-preserved : goal.loop-node-preserved
loop-node-preserved c = elim c.if-is_none.branch [
  | then-is_none+in_ok-try_clone+in_ok-push w ↦
      rw (w.row-is, w.in_ok-push.ensures.items)
      (one_other c.args.nodes.now c.loop-node.node-index c.node-item.result _ c.loop-node.row.items _ c.loop-node-test.true c.node-item.is c.loop-node.invariant c.in_ok-own_node.ensures (none_by _ _ _ c.is_none.ensures w.if-is_none.true) w.in_ok-try_clone.ensures)
  | else-is_none w ↦ rw w.row-is (no_other c.args.nodes.now c.loop-node.node-index c.node-item.result c.loop-node.row.items _ c.loop-node-test.true c.node-item.is c.loop-node.invariant c.in_ok-own_node.ensures (none_by _ _ _ c.is_none.ensures w.if-is_none.false))
]
