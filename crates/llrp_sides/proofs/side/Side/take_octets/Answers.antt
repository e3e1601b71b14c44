use Rattle.std.proofs.Common.{refl}
use Rattle.std.proofs.lemmas.Result.{on_ok_weaker}
use Rattle.llrp_sides.proofs.SideLemmas.{on_ok_of}
use Rattle.llrp_sides.proofs.side.Side.take_octets.Goals as goal

pub returns-in-None : goal.returns-in-None
returns-in-None c = on_ok_weaker c.of_memory.result (λ h. λ passed. record { passed = refl; lists = h; lawful = refl }) (on_ok_of _ c.of_memory.result c.take.result c.of_memory.ensures c.take.ensures)
