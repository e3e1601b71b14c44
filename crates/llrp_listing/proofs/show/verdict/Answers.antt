use Rattle.std.proofs.Common.{rules}
use Rattle.llrp_listing.proofs.show.verdict.Goals as goal

pub returns-then-eq : goal.returns-then-eq
returns-then-eq c = search rules
