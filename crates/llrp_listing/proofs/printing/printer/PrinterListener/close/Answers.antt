use Rattle.llrp_listing.proofs.OpenListingLemmas.{closed_opened}
use Rattle.llrp_listing.proofs.printing.printer.PrinterListener.close.Goals as goal

pub returns : goal.returns
returns c = λ was t o r. (o.0, o.1, closed_opened t _ o.2 r)
