use Rattle.llrp_listing.proofs.PrintsBack.{prints_back}
use Rattle.llrp_listing.proofs.laws.prints_back.Goals as goal

pub returns : goal.returns
returns c = prints_back
