use Rattle.std.proofs.Common.{◌≡◌, drop}
use Rattle.llrp_power.specs.Calls.Entries.{entry_from, entry_within as the_entry}
use Rattle.llrp_power.proofs.entries.entry_within.Given as goal

-- what was found so far and the entries that are left lead to what all lead to
abbrev pub invariant-loop-entry : goal.invariant-loop-entry
invariant-loop-entry l = entry_from l.most l.found (drop l.entry-index l.entries) ≡ the_entry l.most l.fn.entries
