use Rattle.std.proofs.Common.{refl}
use Rattle.llrp_listing.specs.StreamListing.{end_text}
use Rattle.llrp_listing.proofs.PlaceLemmas.{two_puts, puts_same}
use Rattle.llrp_listing.proofs.printing.fault_lines.put_rest.Goals as goal

pub returns-clause-text : goal.returns-clause-text
unfolding end_text
returns-clause-text c = puts_same (two_puts c.put_two-octets_at.ensures c.put_ended.ensures.text) refl
