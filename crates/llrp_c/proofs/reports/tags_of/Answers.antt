use Rattle.std.proofs.Common.{◌∙◌, ◌+◌, ap, subst, sym, take, List, Vec, Global}
use Rattle.llrp_c.specs.Reports.{AreTags}
use Rattle.llrp_c.specs.declared.reports.Tag.{Tag}
use Rattle.llrp_c.proofs.ReportLemmas.{passes, takes}
use Rattle.llrp_c.proofs.reports.tags_of.Goals.{then-is_kind+in_ok-push, else-is_kind}
use Rattle.llrp_c.proofs.reports.tags_of.Goals as goal

pub loop-node-preserved : goal.loop-node-preserved
loop-node-preserved c =
    let parts = c.as_slice-node-items.result.now in
    let items : Vec Tag Global → List Tag = λ v. v.items in
    elim c.if-is_kind.branch [
      | then-is_kind+in_ok-push w ↦ takes parts c.loop-node.node-index c.node-item.result c.loop-node.tags.items c.if-is_kind.tags.items w.tag_of.result
          c.loop-node-test.true c.node-item.is (sym w.if-is_kind.ensures) c.loop-node.invariant w.tag_of.ensures (ap items w.tags-is ∙ w.in_ok-push.ensures.items)
      | else-is_kind w ↦ subst (λ (tags : Vec Tag Global). AreTags (take (c.loop-node.node-index + 1) parts) tags.items) (sym w.tags-is)
          (passes parts c.loop-node.node-index c.node-item.result c.loop-node.tags.items c.loop-node-test.true c.node-item.is (sym w.if-is_kind.ensures) c.loop-node.invariant)
    ]
