use Rattle.std.proofs.Common.{ℕ, length}
use Rattle.llrp_labels.specs.LabelledTags.{IsLabelledTag}
use Rattle.llrp_labels.proofs.TextSteps.{SoFar}
use Rattle.llrp_labels.proofs.tags.label_tags.Given as goal

abbrev pub invariant-lines : goal.invariant-lines
invariant-lines l = (n : ℕ) × SoFar (IsLabelledTag l.fn.labels l.fn.json) l.fn.text l.rest l.labelled.items n

abbrev pub decreases-lines : goal.decreases-lines
decreases-lines l = length l.rest
