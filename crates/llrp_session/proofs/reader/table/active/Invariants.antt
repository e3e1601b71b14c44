use Rattle.std.proofs.Common.{◌≡◌, drop}
use Rattle.llrp_session.specs.Table.{active}
use Rattle.llrp_session.proofs.reader.table.active.Given as goal

abbrev pub invariant-loop-entry : goal.invariant-loop-entry
invariant-loop-entry l = active (drop l.entry-index l.table) ≡ active l.table
