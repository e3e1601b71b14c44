use Rattle.std.proofs.Common.{◌≡◌, refl}
use Rattle.llrp.specs.Calls.Network.{GoesOnWith, MayRunBoth}
use Rattle.llrp.proofs.both_ends.run_both_ends.Goals.{in-Ok, in-Err}
use Rattle.llrp.proofs.both_ends.run_both_ends.Goals as goal

pub returns : goal.returns
returns g c =
    let t0 = g.W.Sink.log c.args.report.now.sink in
    let t1 = g.W.Sink.log c.match-read.report.sink in
    let goes : GoesOnWith (t1 ≡ t0) (MayRunBoth c.args.plan t0 t1) c.read.result c.match-read.outcome =
    elim c.match-read.branch [ in-Ok w ↦ rw (w.in-Ok.is, w.outcome-is, w.report-is) w.run_script-outcome.ensures | in-Err w ↦ rw (w.in-Err.is, w.outcome-is, w.report-is) (refl, refl) ] in
    (c.read.result, c.match-read.outcome, c.read.ensures, goes, c.conclude.ensures)
