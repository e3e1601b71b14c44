use Rattle.std.proofs.Common.{◌≡◌, ◌<◌, ℕ, Some}
use Rattle.std.specs.Prelude.{slice_get}
use Rattle.tag_epc.specs.declared.kind.Kind.{Kind}
use Rattle.tag_epc.specs.Layout.{scheme_name}
use Rattle.tag_uri.proofs.scheme.kind_named.Given as goal

abbrev pub invariant-loop-kind : goal.invariant-loop-kind
invariant-loop-kind l = (i : ℕ) (kind : Kind) → i < l.kind-index → slice_get l.kind-items i ≡ Some kind → l.name ≡ scheme_name kind → ⊥
