use Rattle.std.proofs.Common.{◌≡◌, ◌++◌, ℕ, List, take}
use Rattle.llrp_tree.specs.Tree.{forest}
use Rattle.llrp_endpoints.specs.ReportedTags.{AreReportedLines}
use Rattle.llrp_endpoints.proofs.tag_lister.push_report.Given as goal

abbrev pub invariant-loop-node : goal.invariant-loop-node
invariant-loop-node l = (lines : List ℕ) × AreReportedLines l.form (forest (take l.node-index l.nodes)) lines × (l.text ≡ l.fn.text ++ lines)
