use Rattle.std.proofs.Common.{◌+◌, ◌≤◌, length}
use Rattle.llrp_keys.specs.PrefixLines.{Makes}
use Rattle.llrp_keys.proofs.prefixes.table_of.Given as goal

abbrev pub invariant-lines : goal.invariant-lines
invariant-lines l = record {
  made : Makes l.count l.text l.table.entries.items l.rest;
  few : l.count + length l.rest ≤ length l.text;
}

abbrev pub decreases-lines : goal.decreases-lines
decreases-lines l = length l.rest
