use Rattle.llrp_listing.specs.StreamListing.{end_text}
use Rattle.llrp_listing.proofs.PlaceLemmas.{none_put}
use Rattle.llrp_listing.proofs.printing.fault_lines.put_end.Goals as goal

pub returns-in-Clean-clause-text : goal.returns-in-Clean-clause-text
unfolding end_text
returns-in-Clean-clause-text c = rw c.in-Clean.is (none_put c.args.room.now c.args.at)

pub returns-in-Dead-clause-text : goal.returns-in-Dead-clause-text
unfolding end_text
returns-in-Dead-clause-text c = rw c.in-Dead.is (none_put c.args.room.now c.args.at)

pub returns-in-Broken-clause-text : goal.returns-in-Broken-clause-text
unfolding end_text
returns-in-Broken-clause-text c = rw c.in-Broken.is c.put_text.ensures
