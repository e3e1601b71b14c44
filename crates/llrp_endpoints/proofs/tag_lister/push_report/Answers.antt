use Rattle.std.proofs.Common.{[], refl}
use Rattle.llrp_endpoints.proofs.TagListing.{no_lines, one_line}
use Rattle.llrp_endpoints.proofs.tag_lister.push_report.Goals as goal

pub loop-node-init : goal.loop-node-init
loop-node-init c = no_lines c.args.form [] c.args.text.now refl

pub loop-node-preserved : goal.loop-node-preserved
loop-node-preserved c =
    one_line c.args.form c.args.nodes.now c.loop-node.node-index c.node-item.result c.args.text.now c.loop-node.text _ c.loop-node-test.true c.node-item.is c.loop-node.invariant c.in_ok-push_if_tag.ensures
