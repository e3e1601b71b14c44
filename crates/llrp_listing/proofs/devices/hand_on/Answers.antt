use Rattle.std.proofs.Common.{rules}
use Rattle.llrp_listing.proofs.devices.hand_on.Goals as goal

pub returns-clause-written : goal.returns-clause-written
returns-clause-written c = search rules
