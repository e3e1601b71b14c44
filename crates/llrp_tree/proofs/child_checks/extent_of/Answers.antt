use Rattle.std.proofs.Common.{◌≡◌, ◌+◌, take, arith}
use Rattle.llrp_tree.specs.Tree.{Tree, add, forest}
use Rattle.llrp_tree.proofs.TreeLemmas.{forest-take_more}
use Rattle.llrp_tree.proofs.child_checks.extent_of.Goals as goal

pub loop-node-preserved : goal.loop-node-preserved
loop-node-preserved c =
    let t : Tree = c.node-item.result in
    let more : forest (take (c.loop-node.node-index + 1) c.args.nodes.now) ≡ add (forest (take c.loop-node.node-index c.args.nodes.now)) t = forest-take_more c.args.nodes.now c.loop-node.node-index t c.loop-node-test.true c.node-item.is in
    let here = c.lawful.ensures in
    record {
      octets = rw more (omega (arith, c.length.ensures, c.loop-node.invariant.octets));
      bound = omega (arith, here.0.long, c.length.ensures);
      levels = rw more (omega (arith, c.levels.ensures, c.max-levels.ensures, c.loop-node.invariant.levels));
      few = omega (arith, here.0.deep, c.levels.ensures, c.max-levels.ensures);
      lawful = rw more (c.loop-node.invariant.lawful, here.0, here.1);
    }
