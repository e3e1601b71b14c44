use Rattle.std.proofs.Common.{◌≡◌, ◌≢◌, ◌<◌, ℕ, Some}
use Rattle.std.specs.Prelude.{slice_get}
use Rattle.tag_epc.specs.declared.kind.Kind.{Kind}
use Rattle.tag_epc.specs.Layout.{header_of}
use Rattle.tag_epc.proofs.kind.Kind.of_header.Given as goal

abbrev pub invariant-loop-kind : goal.invariant-loop-kind
invariant-loop-kind l = (i : ℕ) (kind : Kind) → i < l.kind-index → slice_get l.kind-items i ≡ Some kind → header_of kind ≢ l.header
