use Rattle.std.proofs.Common.{rules}
use Rattle.llrp_listing.proofs.outcome.error_of.Goals as goal

pub returns-in-Broken : goal.returns-in-Broken
returns-in-Broken c = search rules
