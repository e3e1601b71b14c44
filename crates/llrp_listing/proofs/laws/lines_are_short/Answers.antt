use Rattle.llrp_listing.proofs.LawfulLines.{listing_octets, message_bound}
use Rattle.llrp_listing.proofs.laws.lines_are_short.Goals as goal

pub returns : goal.returns
returns c = λ m. record { short = λ texts l z. message_bound m texts l z; whole = listing_octets m }
