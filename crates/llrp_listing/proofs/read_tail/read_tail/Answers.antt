use Rattle.std.proofs.Common.{rules}
use Rattle.llrp_listing.proofs.read_tail.read_tail.Goals as goal

pub returns-in-Text : goal.returns-in-Text
returns-in-Text c = search rules
