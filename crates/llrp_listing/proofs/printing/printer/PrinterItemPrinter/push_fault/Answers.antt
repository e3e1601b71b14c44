use Rattle.std.proofs.Common.{refl}
use Rattle.llrp_listing.specs.StreamListing.{fault_text}
use Rattle.llrp_listing.proofs.Marked.{marked_more}
use Rattle.llrp_listing.proofs.printing.printer.PrinterItemPrinter.push_fault.Goals as goal

pub returns : goal.returns
returns c = λ was m.
    let text = fault_text c.args.id c.args.fault in
    (text, refl, marked_more c.args.self.now.mark c.len-self.result c.args.self.now.text _ was text m c.in_ok-push_fault.ensures c.len-self.ensures)
