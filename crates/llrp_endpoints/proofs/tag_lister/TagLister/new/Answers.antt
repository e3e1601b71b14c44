use Rattle.llrp_endpoints.proofs.TagListing.{has_none}
use Rattle.llrp_endpoints.proofs.tag_lister.TagLister.new.Goals as goal

pub returns-clause-has : goal.returns-clause-has
returns-clause-has c = has_none c.args.limit _ c.new_in.ensures.stands c.new_in.ensures.limit
