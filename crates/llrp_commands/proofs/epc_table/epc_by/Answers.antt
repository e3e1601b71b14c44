use Rattle.std.proofs.Common.{refl}
use Rattle.llrp_commands.proofs.epc_table.epc_by.Goals as goal

pub returns-in-None : goal.returns-in-None
returns-in-None g c = rw c.in-None.is (c.args.table, refl, c.epc.ensures)
