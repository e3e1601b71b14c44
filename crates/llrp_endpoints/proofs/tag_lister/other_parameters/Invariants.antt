use Rattle.std.proofs.Common.{◌≡◌, take}
use Rattle.llrp_tree.specs.Tree.{forest}
use Rattle.llrp_endpoints.specs.ReportedTags.{others}
use Rattle.llrp_endpoints.proofs.tag_lister.other_parameters.Given as goal

abbrev pub invariant-loop-node : goal.invariant-loop-node
invariant-loop-node l = forest l.row.items ≡ others (forest (take l.node-index l.nodes))
