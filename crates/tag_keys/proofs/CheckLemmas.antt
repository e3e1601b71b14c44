-- Weighed sums and check digits.
use Rattle.std.proofs.Common.{◌≡◌, ◌≢◌, ℕ, zero, suc, get_or, drop, length-drop, ◌<◌, ◌+◌, ◌-◌, ◌*◌, ◌%◌, ◌≤◌, Bool, true, false, cond, List, [], ◌∷◌, ◌++◌, length, refl, ap, ◌∙◌, arith, inl, inr, length-append}
use Rattle.std.specs.Prelude.{◌==◌, ◌⊎◌}
use Rattle.std.specs.Int.{IsInRange}
use Rattle.std.proofs.lemmas.Bool.{eqb-true, eq-eqb, ne_eqb, cases_Bool}
use Rattle.std.proofs.lemmas.List.{drop_more, drop_all}
use Rattle.tag_uri.specs.Calls.Decimal.{AreDigits}
use Rattle.tag_keys.specs.CheckDigit.{weight, weighed, is_checked, check_digit, with_check_digit}

one_or_three : (b : Bool) → (◌≡◌ {A = ℕ} (cond b 1 3) 1) ⊎ (◌≡◌ {A = ℕ} (cond b 1 3) 3)
one_or_three true = inl refl
one_or_three false = inr refl

weight_cases : (n : ℕ) → (weight n ≡ 1) ⊎ (weight n ≡ 3)
weight_cases n = one_or_three (n % 2 == 0)

-- the sum of digits that n others follow
abbrev pub before : List ℕ → ℕ → ℕ
before [] n = 0
before (c ∷ cs) n = (c - 48) * weight (length cs + n) + before cs n

pub weighed-append : (xs ys : List ℕ) → weighed (xs ++ ys) ≡ before xs (length ys) + weighed ys
unfolding weighed
weighed-append [] ys = omega arith
weighed-append (c ∷ cs) ys =
    let ih = weighed-append cs ys in
    let len : length (cs ++ ys) ≡ length cs + length ys = length-append cs ys in
    let first : (c - 48) * weight (length (cs ++ ys)) ≡ (c - 48) * weight (length cs + length ys) = ap (λ (n : ℕ). (c - 48) * weight n) len in
    omega (arith, first, ih)

-- the last digit has weight 1
last_sum : (ds : List ℕ) (c : ℕ) → weighed (ds ++ c ∷ []) ≡ before ds 1 + (c - 48)
unfolding weighed
last_sum ds c = let a = weighed-append ds (c ∷ []) in omega (arith, a)

round : (b t : ℕ) → t ≡ b + (48 - 48) → (b + (48 + (10 - t % 10) % 10 - 48)) % 10 ≡ 0
round b t e = omega (arith, e)

pub checks : (ds : List ℕ) → is_checked (with_check_digit ds) ≡ true
checks ds =
    let e : weighed (with_check_digit ds) % 10 ≡ 0 = rw (last_sum ds (check_digit ds)) (round (before ds 1) (weighed (ds ++ 48 ∷ [])) (last_sum ds 48)) in
    eq-eqb (weighed (with_check_digit ds) % 10) 0 e

only : (b s t c : ℕ) → s ≡ b + (c - 48) → t ≡ b + (48 - 48) → IsInRange 48 57 c → s % 10 ≡ 0 → c ≡ 48 + (10 - t % 10) % 10
only b s t c p q r h = let low = r.0 in let high = r.1 in omega (arith, p, q, h)

pub only_check : (ds : List ℕ) (c : ℕ) → IsInRange 48 57 c → is_checked (ds ++ c ∷ []) ≡ true → c ≡ check_digit ds
only_check ds c r h = only (before ds 1) (weighed (ds ++ c ∷ [])) (weighed (ds ++ 48 ∷ [])) c (last_sum ds c) (last_sum ds 48) r (eqb-true (weighed (ds ++ c ∷ []) % 10) 0 h)

-- the sum from a place on, by the digit there
pub weighed_step : (ds : List ℕ) (i : ℕ) → i < length ds → weighed (drop i ds) ≡ (get_or ds i 0 - 48) * weight (length ds - i - 1) + weighed (drop (i + 1) ds)
unfolding weighed
weighed_step ds i h =
    let e : drop i ds ≡ get_or ds i 0 ∷ drop (i + 1) ds = drop_more ds i 0 h in
    let l : length (drop (i + 1) ds) ≡ length ds - i - 1 = omega (arith, length-drop (i + 1) ds) in
    ap weighed e ∙ ap (λ (n : ℕ). (get_or ds i 0 - 48) * weight n + weighed (drop (i + 1) ds)) l

pub weighed_none : (ds : List ℕ) (i : ℕ) → length ds ≤ i → weighed (drop i ds) ≡ 0
unfolding weighed
weighed_none ds i h = ap weighed (drop_all i ds h)

pub digit_at : (ds : List ℕ) (i : ℕ) → AreDigits ds → i < length ds → (48 ≤ get_or ds i 0) × (get_or ds i 0 ≤ 57)
digit_at [] i h l = absurd (omega arith)
digit_at (c ∷ cs) zero h l = h.0
digit_at (c ∷ cs) (suc i) h l = digit_at cs i h.1 (omega arith)

-- a loop over the digits, one more and at its end
pub sum_more : (ds : List ℕ) (i sum w : ℕ) → i < length ds → w ≡ weight (length ds - i - 1) → sum + weighed (drop i ds) ≡ weighed ds → sum + (get_or ds i 0 - 48) * w + weighed (drop (i + 1) ds) ≡ weighed ds
sum_more ds i sum w h e k = rw e (omega (arith, k, weighed_step ds i h))

pub few_more : (ds : List ℕ) (i sum w : ℕ) → AreDigits ds → i < length ds → w ≡ weight (length ds - i - 1) → sum ≤ 27 * i → sum + (get_or ds i 0 - 48) * w ≤ 27 * (i + 1)
few_more ds i sum w d h e k =
    let r = digit_at ds i d h in
    elim (weight_cases (length ds - i - 1)) [
      | inl one ↦ let is : w ≡ 1 = e ∙ one in rw is (omega (arith, r.0, r.1, k))
      | inr three ↦ let is : w ≡ 3 = e ∙ three in rw is (omega (arith, r.0, r.1, k))
    ]

pub weighed_all : (ds : List ℕ) (i sum : ℕ) → length ds ≤ i → sum + weighed (drop i ds) ≡ weighed ds → sum ≡ weighed ds
weighed_all ds i sum h k = omega (arith, k, weighed_none ds i h)

-- ---- slips

-- the sum of digits around one
around : (front back : List ℕ) (c : ℕ) → weighed (front ++ c ∷ back) ≡ before front (suc (length back)) + ((c - 48) * weight (length back) + weighed back)
unfolding weighed
around front back c = weighed-append front (c ∷ back)

slip_one : (a w c d s t : ℕ) → IsInRange 48 57 c → IsInRange 48 57 d → c ≢ d → s ≡ a + ((c - 48) * 1 + w) → t ≡ a + ((d - 48) * 1 + w) → s % 10 ≡ 0 → t % 10 ≡ 0 → ⊥
slip_one a w c d s t p q ne e f g h = let p0 = p.0 in let p1 = p.1 in let q0 = q.0 in let q1 = q.1 in ne (omega (arith, e, f, g, h))

slip_three : (a w c d s t : ℕ) → IsInRange 48 57 c → IsInRange 48 57 d → c ≢ d → s ≡ a + ((c - 48) * 3 + w) → t ≡ a + ((d - 48) * 3 + w) → s % 10 ≡ 0 → t % 10 ≡ 0 → ⊥
slip_three a w c d s t p q ne e f g h = let p0 = p.0 in let p1 = p.1 in let q0 = q.0 in let q1 = q.1 in ne (omega (arith, e, f, g, h))

pub one_slip : (front back : List ℕ) (c d : ℕ) → IsInRange 48 57 c → IsInRange 48 57 d → c ≢ d → is_checked (front ++ c ∷ back) ≡ true → is_checked (front ++ d ∷ back) ≡ false
one_slip front back c d p q ne h =
    let s : ℕ = weighed (front ++ c ∷ back) in
    let t : ℕ = weighed (front ++ d ∷ back) in
    let a : ℕ = before front (suc (length back)) in
    let w : ℕ = weighed back in
    let zero_now : s % 10 ≡ 0 = eqb-true (s % 10) 0 h in
    let es = around front back c in
    let et = around front back d in
    ne_eqb (t % 10) 0 (λ zero_then. elim (weight_cases (length back)) [
      | inl e ↦ slip_one a w c d s t p q ne (rw e at es) (rw e at et) zero_now zero_then
      | inr e ↦ slip_three a w c d s t p q ne (rw e at es) (rw e at et) zero_now zero_then
    ])

-- ---- neighbours

-- two neighbours have weights 1 and 3
data Weights (n : ℕ) : Type 0 where
  one_three : weight n ≡ 1 → weight (suc n) ≡ 3 → Weights n
  three_one : weight n ≡ 3 → weight (suc n) ≡ 1 → Weights n

neighbour_weights : (n : ℕ) → Weights n
neighbour_weights n =
    elim (cases_Bool (n % 2 == 0)) [
      | inl e ↦
          let even : n % 2 ≡ 0 = eqb-true (n % 2) 0 e in
          let odd : (suc n % 2 == 0) ≡ false = ne_eqb (suc n % 2) 0 (λ z. omega (arith, even, z)) in
          one_three (ap (λ (b : Bool). cond b 1 3) e) (ap (λ (b : Bool). cond b 1 3) odd)
      | inr e ↦
          let odd : n % 2 ≡ 0 → ⊥ = λ z. let yes = eq-eqb (n % 2) 0 z in cc in
          let even : (suc n % 2 == 0) ≡ true = eq-eqb (suc n % 2) 0 (omega (arith, odd)) in
          three_one (ap (λ (b : Bool). cond b 1 3) e) (ap (λ (b : Bool). cond b 1 3) even)
    ]

around_two : (front back : List ℕ) (c d : ℕ) → weighed (front ++ c ∷ d ∷ back) ≡ before front (suc (suc (length back))) + ((c - 48) * weight (suc (length back)) + ((d - 48) * weight (length back) + weighed back))
unfolding weighed
around_two front back c d = weighed-append front (c ∷ d ∷ back)

turn_one : (a w c d s t : ℕ) → IsInRange 48 57 c → IsInRange 48 57 d → c ≢ d → c + 5 ≢ d → d + 5 ≢ c → s ≡ a + ((c - 48) * 3 + ((d - 48) * 1 + w)) → t ≡ a + ((d - 48) * 3 + ((c - 48) * 1 + w)) → s % 10 ≡ 0 → t % 10 ≡ 0 → ⊥
turn_one a w c d s t p q ne five other e f g h = let p0 = p.0 in let p1 = p.1 in let q0 = q.0 in let q1 = q.1 in omega (arith, e, f, g, h, ne, five, other)

turn_three : (a w c d s t : ℕ) → IsInRange 48 57 c → IsInRange 48 57 d → c ≢ d → c + 5 ≢ d → d + 5 ≢ c → s ≡ a + ((c - 48) * 1 + ((d - 48) * 3 + w)) → t ≡ a + ((d - 48) * 1 + ((c - 48) * 3 + w)) → s % 10 ≡ 0 → t % 10 ≡ 0 → ⊥
turn_three a w c d s t p q ne five other e f g h = let p0 = p.0 in let p1 = p.1 in let q0 = q.0 in let q1 = q.1 in omega (arith, e, f, g, h, ne, five, other)

pub neighbours : (front back : List ℕ) (c d : ℕ) → IsInRange 48 57 c → IsInRange 48 57 d → c ≢ d → c + 5 ≢ d → d + 5 ≢ c → is_checked (front ++ c ∷ d ∷ back) ≡ true → is_checked (front ++ d ∷ c ∷ back) ≡ false
neighbours front back c d p q ne five other h =
    let s : ℕ = weighed (front ++ c ∷ d ∷ back) in
    let t : ℕ = weighed (front ++ d ∷ c ∷ back) in
    let a : ℕ = before front (suc (suc (length back))) in
    let w : ℕ = weighed back in
    let zero_now : s % 10 ≡ 0 = eqb-true (s % 10) 0 h in
    let es = around_two front back c d in
    let et = around_two front back d c in
    ne_eqb (t % 10) 0 (λ zero_then. elim (neighbour_weights (length back)) [
      | one_three e f ↦ turn_one a w c d s t p q ne five other (rw (f, e) at es) (rw (f, e) at et) zero_now zero_then
      | three_one e f ↦ turn_three a w c d s t p q ne five other (rw (f, e) at es) (rw (f, e) at et) zero_now zero_then
    ])
