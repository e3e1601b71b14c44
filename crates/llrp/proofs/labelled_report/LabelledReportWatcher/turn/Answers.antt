use Rattle.std.proofs.Common.{false}
use Rattle.llrp.proofs.LabelLemmas.{reports_more}
use Rattle.llrp.proofs.labelled_report.LabelledReportWatcher.turn.Goals as goal

pub returns : goal.returns
returns g c =
    let (text, are, appends) = c.in_ok-print.ensures.printed in
    rw (c.in_ok-print.ensures.labels, c.in_ok-print.ensures.form)
    (reports_more c.args.self.now.labels c.args.self.now.form _ _ (record { piece = c.args._piece.now; lines = c.args.lines.now; late = false }) text are appends)
