use Rattle.std.proofs.Common.{refl, ◌≡◌}
use Rattle.llrp.specs.Calls.Labels.{FollowsTold, ReportsTo}
use Rattle.llrp.specs.Calls.Network.{MayEnd}
use Rattle.llrp.proofs.inventory.labelled_inventory.Goals.{in-Some, in-None}
use Rattle.llrp.proofs.inventory.labelled_inventory.Goals as goal

pub returns : goal.returns
returns g c =
    let old = c.args.report.now in
    let new = c.wipe.new.self in
    let ends : MayEnd (g.W.Write.contents new.output ≡ g.W.Write.contents old.output)
    (FollowsTold c.args.target.limit c.args.plan (ReportsTo old.labels old.form (g.W.Write.contents old.output)) (ReportsTo new.labels new.form (g.W.Write.contents new.output))) c.match-connect.outcome =
    elim c.match-connect.branch [
      | in-Some w ↦ rw (c.wipe.ensures.output, c.wipe.ensures.labels, c.wipe.ensures.form, w.report-is, w.outcome-is, ← w.show.ensures.output, ← w.show.ensures.labels, ← w.show.ensures.form) w.take_labelled.ensures
      | in-None w ↦ rw (c.wipe.ensures.output, w.report-is, w.outcome-is) refl
    ] in
    (c.match-connect.outcome, ends, c.conclude.ensures)
