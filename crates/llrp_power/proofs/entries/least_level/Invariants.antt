use Rattle.std.proofs.Common.{◌≡◌, drop}
use Rattle.llrp_power.specs.Calls.Entries.{least_from, least_level as the_least}
use Rattle.llrp_power.proofs.entries.least_level.Given as goal

abbrev pub invariant-loop-entry : goal.invariant-loop-entry
invariant-loop-entry l = least_from l.least (drop l.entry-index l.entries) ≡ the_least l.fn.entries
