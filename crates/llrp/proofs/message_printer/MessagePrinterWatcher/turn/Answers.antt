use Rattle.llrp.proofs.WatchLemmas.{prints_messages}
use Rattle.llrp.proofs.message_printer.MessagePrinterWatcher.turn.Goals as goal

pub returns : goal.returns
returns g c =
    rw c.in_ok-print.ensures.lister
    (prints_messages c.args.self.now.lister c.feed.new.self _ _ (record { piece = c.args.piece.now; lines = c.args.lines.now; late = c.tell.result }) _ (rw c.new-text.ensures.items at c.in_ok-feed.ensures) (rw c.as_slice.ensures.value at c.in_ok-print.ensures.printed))
