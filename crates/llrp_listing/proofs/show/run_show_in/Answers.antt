use Rattle.llrp_listing.proofs.OneText.{one_text_of_item}
use Rattle.llrp_listing.proofs.show.run_show_in.Goals as goal

pub run_show_with-requires-clause-one : goal.run_show_with-requires-clause-one
run_show_with-requires-clause-one g c = one_text_of_item
