use Rattle.std.proofs.Common.{rules}
use Rattle.llrp_listing.proofs.outcome.Refusal.names.Goals as goal

pub returns-in-Line : goal.returns-in-Line
returns-in-Line c = search rules
