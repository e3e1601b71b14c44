use Rattle.std.proofs.Common.{◌≡◌, take}
use Rattle.std.specs.Prelude.{filter}
use Rattle.llrp_schema.specs.Schema.{groups_of, has_place}
use Rattle.llrp_explain.proofs.kind_texts.parents.Given as goal

abbrev pub invariant-loop-parent : goal.invariant-loop-parent
invariant-loop-parent l = l.parents.items ≡ filter (λ parent. has_place (groups_of parent) l.kind) (take l.parent-index l.kinds)
