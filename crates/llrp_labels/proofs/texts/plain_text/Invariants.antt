use Rattle.std.proofs.Common.{◌+◌, ◌≤◌, length}
use Rattle.llrp_labels.specs.LabelledLines.{ReadsLine}
use Rattle.llrp_labels.proofs.TextSteps.{SoFar}
use Rattle.llrp_labels.proofs.texts.plain_text.Given as goal

abbrev pub invariant-lines : goal.invariant-lines
invariant-lines l = record {
  so_far : SoFar (ReadsLine l.labels) l.text l.rest l.plain.items l.count;
  few : l.count + length l.rest ≤ length l.text;
}

abbrev pub decreases-lines : goal.decreases-lines
decreases-lines l = length l.rest
