use Rattle.std.proofs.Common.{◌≡◌, drop}
use Rattle.llrp_access.specs.Calls.Targets.{chosen}
use Rattle.llrp_access.proofs.access_spec.chosen.Given as goal

-- what is left decides
abbrev pub invariant-loop-entry : goal.invariant-loop-entry
invariant-loop-entry l = chosen l.antenna l.rospec l.memory (drop l.entry-index l.entries) ≡ chosen l.antenna l.rospec l.memory l.entries
