use Rattle.std.proofs.Common.{take}
use Rattle.llrp_c.specs.Reports.{AreTags}
use Rattle.llrp_c.proofs.reports.tags_of.Given as goal

abbrev pub invariant-loop-node : goal.invariant-loop-node
invariant-loop-node l = AreTags (take l.node-index l.node-items) l.tags.items
