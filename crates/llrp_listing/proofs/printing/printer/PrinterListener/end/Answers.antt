use Rattle.llrp_listing.proofs.OpenListingLemmas.{ended_lines, appended}
use Rattle.llrp_listing.proofs.printing.printer.PrinterListener.end.Goals as goal

pub returns : goal.returns
returns c = λ was b m o r e.
    let a = appended c.args.self.now.mark c.len-self.result c.args.self.now.text was b m c.len-self.ensures o.0 o.1 (ended_lines b m _ o.2 r e) in
    (a.0, (a.1, a.2, a.3), a.4)
