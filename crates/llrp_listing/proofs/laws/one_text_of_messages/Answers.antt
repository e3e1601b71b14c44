use Rattle.llrp_listing.specs.MessageListing.{messages_lines}
use Rattle.llrp_listing.proofs.OneText.{one_text_of_lines}
use Rattle.llrp_listing.proofs.laws.one_text_of_messages.Goals as goal

pub returns : goal.returns
returns c = λ messages s t p q. one_text_of_lines (messages_lines messages) s t p q
