-- Results that come after others.
use Rattle.std.proofs.Common.{◌≡◌, ◌∙◌, ℕ, zero, suc, List, [], ◌∷◌, Bool, true, false, ◌+◌, ◌-◌, ◌<◌, drop, filter, length, slice_index_or, refl, sym, ap, rules, arith}
use Rattle.std.proofs.Math.Seq.{drop-cons}
use Rattle.llrp_tree.specs.Tree.{Tree}
use Rattle.llrp_operations.specs.Calls.Results.{is_result}
use Rattle.llrp_operations.proofs.ResultLemmas.{kept, kept_is}

-- ---- the next parameter is a result, or is not

kept_true : (b : Bool) (t : Tree) (ts : List Tree) → b ≡ true → kept b t ts ≡ t ∷ ts
kept_true true t ts h = refl
kept_true false t ts h = absurd (search (rules, h))

kept_false : (b : Bool) (t : Tree) (ts : List Tree) → b ≡ false → kept b t ts ≡ ts
kept_false true t ts h = absurd (search (rules, h))
kept_false false t ts h = refl

next_is : (ts : List Tree) (i : ℕ) (t : Tree) → i < length ts → t ≡ slice_index_or ts i t → drop i ts ≡ t ∷ drop (suc i) ts
next_is ts i t within is = drop-cons ts i t within ∙ ap (λ (x : Tree). x ∷ drop (suc i) ts) (sym is)

pub passes : (ts : List Tree) (i : ℕ) (t : Tree) → i < length ts → t ≡ slice_index_or ts i t → is_result t ≡ true → filter is_result (drop i ts) ≡ t ∷ filter is_result (drop (i + 1) ts)
passes ts i t within is said =
    let more : suc i ≡ i + 1 = omega arith in
    ap (λ (x : List Tree). filter is_result x) (next_is ts i t within is)
    ∙ kept_is t (drop (suc i) ts) ∙ kept_true (is_result t) t (filter is_result (drop (suc i) ts)) said
    ∙ ap (λ (n : ℕ). t ∷ filter is_result (drop n ts)) more

pub skips : (ts : List Tree) (i : ℕ) (t : Tree) → i < length ts → t ≡ slice_index_or ts i t → is_result t ≡ false → filter is_result (drop i ts) ≡ filter is_result (drop (i + 1) ts)
skips ts i t within is said =
    let more : suc i ≡ i + 1 = omega arith in
    ap (λ (x : List Tree). filter is_result x) (next_is ts i t within is)
    ∙ kept_is t (drop (suc i) ts) ∙ kept_false (is_result t) t (filter is_result (drop (suc i) ts)) said
    ∙ ap (λ (n : ℕ). filter is_result (drop n ts)) more

-- ---- what is left of a list after n elements, and after one more

drop_rest : (n : ℕ) (xs ts : List Tree) (t : Tree) → drop n xs ≡ t ∷ ts → drop (suc n) xs ≡ ts
drop_rest zero [] ts t h = absurd (search (rules, h))
drop_rest zero (x ∷ xs) ts t h = cc
drop_rest (suc n) [] ts t h = absurd (search (rules, h))
drop_rest (suc n) (x ∷ xs) ts t h = drop_rest n xs ts t h

pub head_at : (n : ℕ) (xs ts : List Tree) (t : Tree) → drop n xs ≡ t ∷ ts → drop n xs ≡ t ∷ drop (suc n) xs
head_at n xs ts t h = h ∙ ap (λ (x : List Tree). t ∷ x) (sym (drop_rest n xs ts t h))

pub one_less : (left : ℕ) (t : Tree) (ts : List Tree) → 0 < left → drop left (t ∷ ts) ≡ drop (left - 1) ts
one_less zero t ts h = absurd (omega (arith, h))
one_less (suc n) t ts h = let less : n ≡ suc n - 1 = omega arith in ap (λ (x : ℕ). drop x ts) less
