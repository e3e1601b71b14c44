use Rattle.std.proofs.Common.{inl}
use Rattle.llrp.proofs.clients.say_ready.Goals as goal

pub returns : goal.returns
returns g c = inl (rw (c.as_slice.ensures, c.in-Ok.ensures) at c.write_all.ensures)
