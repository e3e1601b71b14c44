use Rattle.llrp_listing.proofs.OneText.{one_stream_listing}
use Rattle.llrp_listing.proofs.laws.one_text_of_items.Goals as goal

pub returns : goal.returns
returns c = one_stream_listing
