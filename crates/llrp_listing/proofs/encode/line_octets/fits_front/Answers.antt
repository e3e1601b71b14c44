use Rattle.std.proofs.Common.{sym, ◌∙◌}
use Rattle.llrp_listing.proofs.Putting.{own_short}
use Rattle.llrp_listing.proofs.encode.line_octets.fits_front.Goals as goal

pub returns-in-Profile : goal.returns-in-Profile
returns-in-Profile c = λ t. own_short c.args.kind (sym c.kind_set.ensures ∙ c.in-Profile.is)
