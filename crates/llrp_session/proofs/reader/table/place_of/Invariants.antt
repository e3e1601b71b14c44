use Rattle.std.proofs.Common.{◌≡◌, ◌+◌, drop}
use Rattle.llrp_session.specs.Private.ReaderParts.{place_of}
use Rattle.llrp_session.proofs.reader.table.place_of.Given as goal

abbrev pub invariant-loop-entry : goal.invariant-loop-entry
invariant-loop-entry l = (l.place ≡ l.entry-index) × (l.place + place_of l.id (drop l.entry-index l.table) ≡ place_of l.id l.table)
