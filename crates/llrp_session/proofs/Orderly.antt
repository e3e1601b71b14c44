-- A reader's table stays in order, with one active ROSpec at most.
use Rattle.std.proofs.Common.{◌≡◌, ℕ, suc, ◌<◌, ◌≤◌, refl, sym, subst, Bool, true, false, cond, List, [], ◌∷◌, arith}
use Rattle.std.specs.Prelude.{◌==◌, nat_lt, None, Some}
use Rattle.std.proofs.lemmas.Bool.Decides.{nat_tests}
use Rattle.llrp_session.specs.RoSpec.{RoSpec}
use Rattle.llrp_session.specs.Table.{RoState, Entry, Disabled, Inactive, Active, change, without, enter, names, setting, enabling, enabled, disabling, active, is_active, active_count}
use Rattle.llrp_session.specs.Calls.Table.{AllAbove, IsRising}

-- Each id is there once and above 0, and one entry at most is active.
pub record IsOrderly (table : List Entry) : Type 0 where
  pub rising : IsRising table
  pub no_zero : AllAbove 0 table
  pub one_active : active_count table ≤ 1

-- ---- order

pub AllAbove-change : (f : ℕ → RoState → RoState) (n : ℕ) (t : List Entry) → AllAbove n t → AllAbove n (change f t)
unfolding AllAbove change
AllAbove-change f n [] h = tt
AllAbove-change f n (e ∷ es) h = (h.0, AllAbove-change f n es h.1)

pub IsRising-change : (f : ℕ → RoState → RoState) (t : List Entry) → IsRising t → IsRising (change f t)
unfolding IsRising change
IsRising-change f [] h = tt
IsRising-change f (e ∷ es) h = (AllAbove-change f e.spec.id es h.0, IsRising-change f es h.1)

pub AllAbove-without : (m n : ℕ) (t : List Entry) → AllAbove n t → AllAbove n (without m t)
unfolding AllAbove without
AllAbove-without m n [] h = tt
AllAbove-without m n (e ∷ es) h =
    elim (names m e.spec.id) as (λ b. AllAbove n (cond b (without m es) (e ∷ without m es))) [ true ↦ AllAbove-without m n es h.1 | false ↦ (h.0, AllAbove-without m n es h.1) ]

pub IsRising-without : (m : ℕ) (t : List Entry) → IsRising t → IsRising (without m t)
unfolding IsRising without
IsRising-without m [] h = tt
IsRising-without m (e ∷ es) h =
    elim (names m e.spec.id) as (λ b. IsRising (cond b (without m es) (e ∷ without m es))) [ true ↦ IsRising-without m es h.1 | false ↦ (AllAbove-without m e.spec.id es h.0, IsRising-without m es h.1) ]

AllAbove-less : (m n : ℕ) (t : List Entry) → m < n → AllAbove n t → AllAbove m t
unfolding AllAbove
AllAbove-less m n [] h a = tt
AllAbove-less m n (e ∷ es) h a = (omega arith, AllAbove-less m n es h a.1)

lt-true : (a b : ℕ) → nat_lt a b ≡ true → a < b
lt-true a b h = grind (arith, nat_tests)

lt-greater : (a b : ℕ) → (a == b) ≡ false → nat_lt a b ≡ false → b < a
lt-greater a b h g = grind (arith, nat_tests)

pub eq-true : (a b : ℕ) → (a == b) ≡ true → a ≡ b
eq-true a b h = grind (arith, nat_tests)

pub AllAbove-enter : (s : RoSpec) (n : ℕ) (t : List Entry) → n < s.id → AllAbove n t → AllAbove n (enter s t)
unfolding AllAbove enter
AllAbove-enter s n [] h a = (h, tt)
AllAbove-enter s n (e ∷ es) h a =
    let new : Entry = record { spec = s; state = Disabled } in
    elim (s.id == e.spec.id) as (λ x. AllAbove n (cond x (new ∷ es) (cond (nat_lt s.id e.spec.id) (new ∷ e ∷ es) (e ∷ enter s es)))) [
      | true ↦ (h, a.1)
      | false ↦ elim (nat_lt s.id e.spec.id) as (λ y. AllAbove n (cond y (new ∷ e ∷ es) (e ∷ enter s es))) [ true ↦ (h, (a.0, a.1)) | false ↦ (a.0, AllAbove-enter s n es h a.1) ]
    ]

pub IsRising-enter : (s : RoSpec) (t : List Entry) → IsRising t → IsRising (enter s t)
unfolding IsRising enter AllAbove
IsRising-enter s [] h = (tt, tt)
IsRising-enter s (e ∷ es) h =
    let new : Entry = record { spec = s; state = Disabled } in
    elim (s.id == e.spec.id) as (λ x. (s.id == e.spec.id) ≡ x → IsRising (cond x (new ∷ es) (cond (nat_lt s.id e.spec.id) (new ∷ e ∷ es) (e ∷ enter s es)))) [
      | true ↦ λ p. (subst (λ n. AllAbove n es) (sym (eq-true s.id e.spec.id p)) h.0, h.1)
      | false ↦ λ p. elim (nat_lt s.id e.spec.id) as (λ y. nat_lt s.id e.spec.id ≡ y → IsRising (cond y (new ∷ e ∷ es) (e ∷ enter s es))) [
        | true ↦ λ q. ((lt-true s.id e.spec.id q, AllAbove-less s.id e.spec.id es (lt-true s.id e.spec.id q) h.0), h)
        | false ↦ λ q. (AllAbove-enter s e.spec.id es (lt-greater s.id e.spec.id p q) h.0, IsRising-enter s es h.1)
      ] refl
    ] refl

-- ---- how many are active

-- a change that makes none active
abbrev pub Calms : (ℕ → RoState → RoState) → Type 0
Calms f = (id : ℕ) (s : RoState) → is_active (f id s) ≡ true → is_active s ≡ true

step_le : (a b : Bool) (m n : ℕ) → (a ≡ true → b ≡ true) → m ≤ n → cond a (suc m) m ≤ cond b (suc n) n
step_le true true m n h le = omega arith
step_le true false m n h le = let e : false ≡ true = h refl in cc
step_le false true m n h le = omega arith
step_le false false m n h le = le

pub active_count-change : (f : ℕ → RoState → RoState) (t : List Entry) → Calms f → active_count (change f t) ≤ active_count t
unfolding active_count change
active_count-change f [] h = omega arith
active_count-change f (e ∷ es) h = step_le (is_active (f e.spec.id e.state)) (is_active e.state) _ _ (h e.spec.id e.state) (active_count-change f es h)

pub active_count-without : (n : ℕ) (t : List Entry) → active_count (without n t) ≤ active_count t
unfolding active_count without
active_count-without n [] = omega arith
active_count-without n (e ∷ es) =
    elim (names n e.spec.id) as (λ b. active_count (cond b (without n es) (e ∷ without n es)) ≤ cond (is_active e.state) (suc (active_count es)) (active_count es)) [
      | true ↦ step_le false (is_active e.state) _ _ (λ h. cc) (active_count-without n es)
      | false ↦ step_le (is_active e.state) (is_active e.state) _ _ (λ h. h) (active_count-without n es)
    ]

pub active_count-enter : (s : RoSpec) (t : List Entry) → active_count (enter s t) ≤ active_count t
unfolding active_count enter
active_count-enter s [] = omega arith
active_count-enter s (e ∷ es) =
    let new : Entry = record { spec = s; state = Disabled } in
    elim (s.id == e.spec.id) as (λ x. active_count (cond x (new ∷ es) (cond (nat_lt s.id e.spec.id) (new ∷ e ∷ es) (e ∷ enter s es))) ≤ cond (is_active e.state) (suc (active_count es)) (active_count es)) [
      | true ↦ step_le false (is_active e.state) _ _ (λ h. cc) (omega arith)
      | false ↦ elim (nat_lt s.id e.spec.id) as (λ y. active_count (cond y (new ∷ e ∷ es) (e ∷ enter s es)) ≤ cond (is_active e.state) (suc (active_count es)) (active_count es)) [
        | true ↦ omega arith
        | false ↦ step_le (is_active e.state) (is_active e.state) _ _ (λ h. h) (active_count-enter s es)
      ]
    ]

pub calms-off : (to : RoState) (n : ℕ) → is_active to ≡ false → Calms (setting n to)
calms-off to n off id s h = elim (n == id) as (λ b. is_active (cond b to s) ≡ true → is_active s ≡ true) [ true ↦ λ e. cc | false ↦ λ e. e ] h

enabled-active : (s : RoState) → is_active (enabled s) ≡ true → is_active s ≡ true
enabled-active Disabled h = h
enabled-active Inactive h = h
enabled-active Active h = h

pub calms-enabling : (n : ℕ) → Calms (enabling n)
calms-enabling n id s h = elim (names n id) as (λ b. is_active (cond b (enabled s) s) ≡ true → is_active s ≡ true) [ true ↦ λ e. enabled-active s e | false ↦ λ e. e ] h

pub calms-disabling : (n : ℕ) → Calms (disabling n)
calms-disabling n id s h = elim (names n id) as (λ b. is_active (cond b Disabled s) ≡ true → is_active s ≡ true) [ true ↦ λ e. cc | false ↦ λ e. e ] h

pub no_active : (t : List Entry) → active t ≡ None → active_count t ≡ 0
unfolding active active_count
no_active [] h = refl
no_active (e ∷ es) h =
    elim (is_active e.state) as (λ b. cond b (Some e.spec) (active es) ≡ None → cond b (suc (active_count es)) (active_count es) ≡ 0) [ true ↦ λ g. cc | false ↦ λ g. no_active es g ] h

other : (n m : ℕ) → n < m → (n == m) ≡ false
other n m h = grind (arith, nat_tests)

active_count-above : (n : ℕ) (t : List Entry) → AllAbove n t → active_count (change (setting n Active) t) ≡ active_count t
unfolding active_count change AllAbove
active_count-above n [] h = refl
active_count-above n (e ∷ es) h =
    rw (other n e.spec.id h.0, active_count-above n es h.1)

pub active_count-start : (n : ℕ) (t : List Entry) → IsRising t → active_count t ≡ 0 → active_count (change (setting n Active) t) ≤ 1
unfolding active_count change IsRising
active_count-start n [] r h = omega arith
active_count-start n (e ∷ es) r h =
    elim (is_active e.state) as (λ b. is_active e.state ≡ b → cond b (suc (active_count es)) (active_count es) ≡ 0 → cond (is_active (setting n Active e.spec.id e.state)) (suc (active_count (change (setting n Active) es))) (active_count (change (setting n Active) es)) ≤ 1) [
      | true ↦ λ p g. absurd (omega arith)
      | false ↦ λ p g. elim (n == e.spec.id) as (λ b. (n == e.spec.id) ≡ b → cond (is_active (cond b Active e.state)) (suc (active_count (change (setting n Active) es))) (active_count (change (setting n Active) es)) ≤ 1) [
        | true ↦ λ q. let same : active_count (change (setting n Active) es) ≡ active_count es = active_count-above n es (subst (λ k. AllAbove k es) (sym (eq-true n e.spec.id q)) r.0) in omega arith
        | false ↦ λ q. rw p (active_count-start n es r.1 g)
      ] refl
    ] refl h
