use Rattle.std.proofs.Common.{◌≡◌, take}
use Rattle.llrp_tree.proofs.child_checks.kept.Given as goal

abbrev pub invariant-loop-field : goal.invariant-loop-field
invariant-loop-field l = l.kept.items ≡ take l.field-index l.fields
