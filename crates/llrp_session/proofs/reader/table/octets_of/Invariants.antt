use Rattle.std.proofs.Common.{◌≡◌, ◌+◌, drop}
use Rattle.llrp_session.specs.Table.{octets_of}
use Rattle.llrp_session.proofs.reader.table.octets_of.Given as goal

abbrev pub invariant-loop-entry : goal.invariant-loop-entry
invariant-loop-entry l = l.octets + octets_of (drop l.entry-index l.table) ≡ octets_of l.table
