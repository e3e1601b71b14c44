use Rattle.std.proofs.Common.{◌≡◌, ◌++◌, take, drop}
use Rattle.llrp_session.specs.Table.{change}
use Rattle.llrp_session.specs.Private.ReaderParts.{changing}
use Rattle.llrp_session.proofs.reader.table.change_each.Given as goal

abbrev pub invariant-loop-entry : goal.invariant-loop-entry
invariant-loop-entry l = l.table ≡ change (changing l.change) (take l.entry-index l.initial.table) ++ drop l.entry-index l.initial.table
