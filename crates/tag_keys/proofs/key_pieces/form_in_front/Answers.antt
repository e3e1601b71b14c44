use Rattle.std.proofs.Common.{◌≡◌, ◌++◌, ℕ, List, Some, arith}
use Rattle.tag_epc.proofs.KindLemmas.{every}
use Rattle.tag_keys.specs.KeyText.{KeyForm, key_form}
use Rattle.tag_keys.proofs.key_pieces.form_in_front.Goals as goal

pub returns-clause-none : goal.returns-clause-none
returns-clause-none c =
    λ form rest b.
    every (λ k. (f : KeyForm) (r : List ℕ) → key_form c.args.spelling k ≡ Some f → c.args.text.now ≡ f.start ++ r → ⊥) (λ i k below at. c.loop-kind.invariant i k (omega (arith, below)) at) b.kind form rest b.known b.begins
