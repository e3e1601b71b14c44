use Rattle.std.proofs.Common.{◌+◌, ◌≤◌, length}
use Rattle.llrp_answers.proofs.FileLemmas.{Leads}
use Rattle.llrp_answers.proofs.file.pairs_of.Given as goal

abbrev pub invariant-loop-rest : goal.invariant-loop-rest
invariant-loop-rest l = record {
  leads : Leads l.text l.pairs.items l.lines l.rest;
  few : l.lines + length l.rest ≤ length l.text;
}

abbrev pub decreases-loop-rest : goal.decreases-loop-rest
decreases-loop-rest l = length l.rest
