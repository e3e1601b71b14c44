use Rattle.llrp_listing.proofs.OneText.{one_text_of_item}
use Rattle.llrp_listing.proofs.show.list_stream_in.Goals as goal

pub list_stream_with-requires-clause-one : goal.list_stream_with-requires-clause-one
list_stream_with-requires-clause-one g c = one_text_of_item
