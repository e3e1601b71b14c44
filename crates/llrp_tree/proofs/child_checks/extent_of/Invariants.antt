use Rattle.std.proofs.Common.{◌≡◌, ◌*◌, ◌≤◌, take}
use Rattle.llrp_tree.specs.declared.TheConstants.{MAX_DEPTH}
use Rattle.llrp_tree.specs.Tree.{forest}
use Rattle.llrp_tree.specs.Lawful.{octets, levels, AllLawful}
use Rattle.llrp_tree.proofs.child_checks.extent_of.Given as goal

abbrev pub invariant-loop-node : goal.invariant-loop-node
invariant-loop-node l = record {
  octets : l.octets ≡ octets (forest (take l.node-index l.nodes));
  bound : l.octets ≤ 65535 * l.node-index;
  levels : l.levels ≡ levels (forest (take l.node-index l.nodes));
  few : l.levels ≤ MAX_DEPTH;
  lawful : AllLawful (forest (take l.node-index l.nodes));
}
