use Rattle.std.proofs.Common.{◌≡◌, drop}
use Rattle.llrp_session.specs.Table.{first_immediate}
use Rattle.llrp_session.proofs.reader.table.first_immediate.Given as goal

abbrev pub invariant-loop-entry : goal.invariant-loop-entry
invariant-loop-entry l = first_immediate l.n (drop l.entry-index l.table) ≡ first_immediate l.n l.table
