use Rattle.std.proofs.Common.{refl, sym}
use Rattle.llrp_ask.proofs.own_line.own_step.Goals as goal

pub returns-in-None-clause-refused : goal.returns-in-None-clause-refused
returns-in-None-clause-refused c = (refl, (sym c.if-begins_raw.ensures, rw c.in-None.is at c.in_ok-octets.ensures))
