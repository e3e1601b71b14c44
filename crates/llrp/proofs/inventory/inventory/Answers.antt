use Rattle.std.proofs.Common.{refl}
use Rattle.llrp.specs.Calls.Network.{MayFollow}
use Rattle.llrp.proofs.inventory.inventory.Goals.{in-Some, in-None}
use Rattle.llrp.proofs.inventory.inventory.Goals as goal

pub returns : goal.returns
returns g c =
    let ends : MayFollow c.args.target.limit c.args.plan (g.W.Sink.log c.args.report.now.sink) (g.W.Sink.log c.wipe.new.self.sink) c.match-connect.outcome =
    elim c.match-connect.branch [ in-Some w ↦ rw (c.wipe.ensures, w.report-is, w.outcome-is, ← w.show.ensures) w.take_inventory.ensures | in-None w ↦ rw (c.wipe.ensures, w.report-is, w.outcome-is) refl ] in
    (c.match-connect.outcome, ends, c.conclude.ensures)
