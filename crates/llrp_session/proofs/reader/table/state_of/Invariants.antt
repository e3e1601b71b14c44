use Rattle.std.proofs.Common.{◌≡◌, drop}
use Rattle.llrp_session.specs.Table.{state_of}
use Rattle.llrp_session.proofs.reader.table.state_of.Given as goal

abbrev pub invariant-loop-entry : goal.invariant-loop-entry
invariant-loop-entry l = state_of l.id (drop l.entry-index l.table) ≡ state_of l.id l.table
