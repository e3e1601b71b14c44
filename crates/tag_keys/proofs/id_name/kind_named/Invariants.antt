use Rattle.std.proofs.Common.{◌≡◌, ◌<◌, ℕ, Some}
use Rattle.std.specs.Prelude.{slice_get}
use Rattle.tag_epc.specs.declared.kind.Kind.{Kind}
use Rattle.tag_keys.specs.PureIdentity.{id_name}
use Rattle.tag_keys.proofs.id_name.kind_named.Given as goal

abbrev pub invariant-loop-kind : goal.invariant-loop-kind
invariant-loop-kind l = (i : ℕ) (kind : Kind) → i < l.kind-index → slice_get l.kind-items i ≡ Some kind → l.name ≡ id_name kind → ⊥
