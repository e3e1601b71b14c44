-- Groups before and after one more child.
use Rattle.std.proofs.Common.{◌≡◌, ℕ, ◌+◌, not, true, false, ◌||◌, List, [], ◌∷◌, Option, Some, None, refl, arith}
use Rattle.std.specs.Prelude.{nat_le, if◌then◌else◌}
use Rattle.std.proofs.lemmas.Bool.{le-leb, leb-true}
use Rattle.llrp_schema.specs.declared.kinds.ParamKind.{ParamKind}
use Rattle.llrp_schema.specs.Schema.{GroupRule}
use Rattle.llrp_tree.specs.Tree.{Forest, none, and}
use Rattle.llrp_tree.specs.Lawful.{is_member, count, IsAtMost, NoneTooMany, NoneMissing}
use Rattle.llrp_tree.specs.Lawful.{at_most}
use Rattle.llrp_tree.specs.OpenTree.{takes_more, is_enough}
use Rattle.llrp_tree.proofs.LawLemmas.{both, both_true, most_to as at_most_to, most_from as at_most_from}

most_less : (m : Option ℕ) (n : ℕ) → IsAtMost (n + 1) m → IsAtMost n m
most_less None n h = tt
most_less (Some m) n h = omega (arith, h)

most_zero : (m : Option ℕ) → IsAtMost 0 m
most_zero None = tt
most_zero (Some m) = omega arith

pub most_none : (gs : List GroupRule) → NoneTooMany gs none
unfolding NoneTooMany count
most_none [] = tt
most_none (g ∷ gs) = (most_zero g.most, most_none gs)

pub most_before : (gs : List GroupRule) (before : Forest) (k : ParamKind) (vs tail : List ℕ) (cs : Forest) → NoneTooMany gs (and before k vs tail cs) → NoneTooMany gs before
unfolding NoneTooMany count
most_before [] before k vs tail cs h = tt
most_before (g ∷ gs) before k vs tail cs h = (
  (elim (is_member g k) as (λ b. IsAtMost (if b then count g before + 1 else count g before) g.most → IsAtMost (count g before) g.most)
      [ true ↦ λ e. most_less g.most (count g before) e | false ↦ λ e. e ]) h.0,
  most_before gs before k vs tail cs h.1,
)

pub takes_one_more : (gs : List GroupRule) (before : Forest) (k : ParamKind) (vs tail : List ℕ) (cs : Forest) → NoneTooMany gs (and before k vs tail cs) → takes_more gs k before ≡ true
unfolding NoneTooMany count takes_more
takes_one_more [] before k vs tail cs h = refl
takes_one_more (g ∷ gs) before k vs tail cs h =
    both_true (not (is_member g k) || at_most g.most (count g before + 1)) (takes_more gs k before)
    ((elim (is_member g k) as (λ b. IsAtMost (if b then count g before + 1 else count g before) g.most → (not b || at_most g.most (count g before + 1)) ≡ true)
    [ true ↦ λ e. at_most_to g.most (count g before + 1) e | false ↦ λ e. refl ]) h.0)
    (takes_one_more gs before k vs tail cs h.1)

pub most_after : (gs : List GroupRule) (before : Forest) (k : ParamKind) (vs tail : List ℕ) (cs : Forest) → NoneTooMany gs before → takes_more gs k before ≡ true → NoneTooMany gs (and before k vs tail cs)
unfolding NoneTooMany count takes_more
most_after [] before k vs tail cs h e = tt
most_after (g ∷ gs) before k vs tail cs h e =
    let p = both (not (is_member g k) || at_most g.most (count g before + 1)) (takes_more gs k before) e in (
      (elim (is_member g k) as (λ b. (not b || at_most g.most (count g before + 1)) ≡ true → IsAtMost (if b then count g before + 1 else count g before) g.most)
          [ true ↦ λ x. at_most_from g.most (count g before + 1) x | false ↦ λ x. h.0 ]) p.0,
      most_after gs before k vs tail cs h.1 p.1,
    )

pub enough_from : (gs : List GroupRule) (f : Forest) → is_enough gs f ≡ true → NoneMissing gs f
unfolding NoneMissing is_enough
enough_from [] f e = tt
enough_from (g ∷ gs) f e = let p = both (nat_le g.least (count g f)) (is_enough gs f) e in (leb-true g.least (count g f) p.0, enough_from gs f p.1)

pub enough_to : (gs : List GroupRule) (f : Forest) → NoneMissing gs f → is_enough gs f ≡ true
unfolding NoneMissing is_enough
enough_to [] f h = refl
enough_to (g ∷ gs) f h = both_true (nat_le g.least (count g f)) (is_enough gs f) (le-leb g.least (count g f) h.0) (enough_to gs f h.1)
