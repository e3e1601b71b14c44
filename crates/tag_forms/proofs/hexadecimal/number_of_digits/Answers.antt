use Rattle.std.proofs.Common.{◌≡◌, ◌≤◌, List, ◌+◌, ◌++◌, drop, ℕ, refl, sym, ◌∙◌, subst, arith}
use Rattle.tag_uri.specs.Hexadecimal.{hexadecimal}
use Rattle.tag_uri.proofs.HexadecimalLemmas.{more_fits}
use Rattle.tag_forms.specs.Hexadecimal.{kept_digits}
use Rattle.tag_forms.proofs.HexLemmas.{digit_read, none_read, strange, too_many, too_few, few_fit}
use Rattle.tag_forms.proofs.hexadecimal.number_of_digits.Goals as goal
use Rattle.tag_forms.proofs.hexadecimal.number_of_digits.Goals.{then-is_kept+else-count-eq24+in-Some, else-is_kept}

pub loop-octet-init : goal.loop-octet-init
unfolding hexadecimal
loop-octet-init c = record { few = omega arith; below = omega arith; read = refl }

pub returns-then-count-eq24-clause-none : goal.returns-then-count-eq24-clause-none
returns-then-count-eq24-clause-none c = λ n e.
    let l = c.loop-octet in
    too_many c.args.octets.now l.octet-index l.number n c.loop-octet-test.true (sym c.is_kept.ensures ∙ c.if-is_kept.true)
    (subst (λ (k : ℕ). kept_digits c.args.octets.now ≡ hexadecimal k l.number ++ kept_digits (drop l.octet-index c.args.octets.now)) c.if-count-eq24.true l.invariant.read) e

pub returns-in_default-clause-none : goal.returns-in_default-clause-none
returns-in_default-clause-none c = λ n e.
    let l = c.loop-octet in
    strange c.args.octets.now l.octet-index l.count l.number n c.loop-octet-test.true (omega (arith, l.invariant.few, c.if-count-eq24.false)) (sym c.is_kept.ensures ∙ c.if-is_kept.true) c.in_default.ensures.none l.invariant.read e

pub overflow_mul-number : goal.overflow_mul-number
overflow_mul-number c = omega (arith, few_fit c.loop-octet.count c.loop-octet.number 0 (omega (arith, c.loop-octet.invariant.few, c.if-count-eq24.false)) (omega arith) c.loop-octet.invariant.below)

pub overflow_add-number : goal.overflow_add-number
overflow_add-number c = omega (arith, few_fit c.loop-octet.count c.loop-octet.number c.in-Some.digit (omega (arith, c.loop-octet.invariant.few, c.if-count-eq24.false)) c.in-Some.ensures.below c.loop-octet.invariant.below)

pub returns-else-count-eq24-2-clause-none : goal.returns-else-count-eq24-2-clause-none
returns-else-count-eq24-2-clause-none c = λ n e.
    let l = c.loop-octet in
    too_few c.args.octets.now l.octet-index l.count l.number n (omega (arith, c.loop-octet-test.false)) c.if-count-eq24-2.false l.invariant.read e

pub loop-octet-preserved : goal.loop-octet-preserved
loop-octet-preserved c =
    let l = c.loop-octet in
    let octets : List ℕ = c.args.octets.now in
    let after : ℕ = l.octet-index + 1 in
    elim c.if-is_kept.branch [
      | then-is_kept+else-count-eq24+in-Some w ↦
          let kept = sym c.is_kept.ensures ∙ w.if-is_kept.true in
          let few : l.count + 1 ≤ 24 = omega (arith, l.invariant.few, w.if-count-eq24.false) in
          let below = more_fits l.count l.number w.in-Some.digit l.invariant.below w.in-Some.ensures.below in
          let read = digit_read octets l.octet-index l.count l.number w.in-Some.digit c.loop-octet-test.true kept w.in-Some.ensures.below w.in-Some.ensures.digit l.invariant.read in
          rw (w.count-is, w.number-is) (record { few = few; below = below; read = read })
      | else-is_kept w ↦
          let read = none_read octets l.octet-index l.count l.number c.loop-octet-test.true (sym c.is_kept.ensures ∙ w.if-is_kept.false) l.invariant.read in
          rw (w.count-is, w.number-is) (record { few = l.invariant.few; below = l.invariant.below; read = read })
    ]
