use Rattle.std.proofs.Common.{inr}
use Rattle.llrp_general.proofs.located.with_its_place.Goals as goal

pub returns-in-Some : goal.returns-in-Some
returns-in-Some c = inr (rw c.in-Some.is at c.in_ok-located.ensures)
