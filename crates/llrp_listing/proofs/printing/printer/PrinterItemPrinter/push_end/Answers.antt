use Rattle.llrp_listing.specs.StreamListing.{end_text}
use Rattle.llrp_listing.proofs.Marked.{marked_more}
use Rattle.llrp_listing.proofs.printing.printer.PrinterItemPrinter.push_end.Goals as goal

pub returns : goal.returns
returns c = λ was m. marked_more c.args.self.now.mark c.len-self.result c.args.self.now.text _ was (end_text c.args.end) m c.in_ok-push_end.ensures c.len-self.ensures
