use Rattle.std.proofs.Common.{rules}
use Rattle.llrp_listing.proofs.decimal.signed_byte_of.Goals as goal

pub returns-in_err-number_of-in_default : goal.returns-in_err-number_of-in_default
returns-in_err-number_of-in_default c = search rules
