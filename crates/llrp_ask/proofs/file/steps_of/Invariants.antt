use Rattle.std.proofs.Common.{◌+◌, ◌≤◌, length}
use Rattle.llrp_ask.proofs.FileLemmas.{Leads}
use Rattle.llrp_ask.proofs.file.steps_of.Given as goal

abbrev pub invariant-parts : goal.invariant-parts
invariant-parts l = record {
  leads : Leads l.raw l.text l.steps.items l.lines l.rest;
  few : l.lines + length l.rest ≤ length l.text;
}

abbrev pub decreases-parts : goal.decreases-parts
decreases-parts l = length l.rest
