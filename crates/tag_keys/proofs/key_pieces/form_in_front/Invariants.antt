use Rattle.std.proofs.Common.{◌≡◌, ◌<◌, ◌++◌, ℕ, List, Some}
use Rattle.std.specs.Prelude.{slice_get}
use Rattle.tag_epc.specs.declared.kind.Kind.{Kind}
use Rattle.tag_keys.specs.KeyText.{KeyForm, key_form}
use Rattle.tag_keys.proofs.key_pieces.form_in_front.Given as goal

abbrev pub invariant-loop-kind : goal.invariant-loop-kind
invariant-loop-kind l = (i : ℕ) (kind : Kind) → i < l.kind-index → slice_get l.kind-items i ≡ Some kind → (form : KeyForm) (rest : List ℕ) → key_form l.spelling kind ≡ Some form → l.text ≡ form.start ++ rest → ⊥
