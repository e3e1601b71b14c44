use Rattle.llrp_endpoints.specs.MarkedLines.{name_in}
use Rattle.llrp.proofs.WatchLemmas.{prints_more}
use Rattle.llrp.proofs.tag_printer.TagPrinterWatcher.turn.Goals as goal

pub returns : goal.returns
returns g c =
    rw (c.in_ok-print.ensures.lister, c.in_ok-print.ensures.labels, c.in_ok-print.ensures.name)
    (prints_more c.args.self.now.lister c.feed.new.self c.args.self.now.labels (name_in c.args.self.now.name) _ _ (record { piece = c.args.piece.now; lines = c.args._lines.now; late = c.tell.result }) c.micros_now-micros.result c.feed.new.lines _ _ (rw c.new-lines.ensures at c.in_ok-feed.ensures.takes) c.in_ok-feed.ensures.form (rw (c.form-form.ensures, c.in_ok-feed.ensures.form, c.as_slice.ensures) at c.in_ok-labelled.ensures) (rw (c.form-form.ensures, c.in_ok-feed.ensures.form, c.as_slice-2.ensures.value) at c.in_ok-text.ensures) (rw c.as_slice-3.ensures at c.in_ok-print.ensures.printed))
