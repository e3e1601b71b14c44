use Rattle.llrp_listing.proofs.LineWords.{found_there}
use Rattle.llrp_listing.proofs.encode.read_short_line.kind_named.Goals as goal

pub returns-in-Some : goal.returns-in-Some
returns-in-Some c = found_there _ _ _ c.param_with_name_in.ensures

pub returns-in-None : goal.returns-in-None
returns-in-None c = found_there _ _ _ c.param_with_name_in-in-None.ensures
