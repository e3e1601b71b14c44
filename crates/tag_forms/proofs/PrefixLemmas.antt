-- The longest start in a table of prefixes.
use Rattle.std.proofs.Common.{◌≡◌, ℕ, ◌+◌, ◌<◌, ◌≤◌, true, false, List, length, Option, Some, None, refl, sym, ap, ◌∙◌, subst, arith, inl, inr}
use Rattle.std.specs.Prelude.{MatchOption, slice_get, ◌⊎◌}
use Rattle.std.specs.Borrow.{Bor}
use Rattle.std.proofs.lemmas.Bool.{true≢false, cases_lt}
use Rattle.tag_forms.specs.declared.prefixes.Entry.{Entry}
use Rattle.tag_forms.specs.Prefixes.{begins_with, IsLongest}
use Rattle.tag_forms.specs.Private.Prefixes.{IsBetter}

pub not_begun : (digits : List ℕ) (best : Option (Bor Entry)) (entry : Entry) → begins_with digits entry ≡ false → MatchOption best ((best ≡ None) × (begins_with digits entry ≡ false)) (λ x. IsBetter digits best entry x.now)
not_begun digits None entry h = (refl, h)
not_begun digits (Some b) entry h = inr (λ t. absurd (true≢false (sym t ∙ h)), refl)

-- the longest start of the first k entries
abbrev pub SeenLongest : List Entry → List ℕ → ℕ → Option (Bor Entry) → Type 0
SeenLongest entries digits k None = (at : ℕ) (entry : Entry) → at < k → slice_get entries at ≡ Some entry → begins_with digits entry ≡ true → ⊥
SeenLongest entries digits k (Some best) =
    ((at : ℕ) × (slice_get entries at ≡ Some best.now)) × (begins_with digits best.now ≡ true)
    × ((at : ℕ) (entry : Entry) → at < k → slice_get entries at ≡ Some entry → begins_with digits entry ≡ true → length entry.start.items ≤ length best.now.start.items)

pub same_entry : (a b : Entry) → ◌≡◌ {A = Option Entry} (Some a) (Some b) → a ≡ b
same_entry a b e = cc

module _ (entries : List Entry) (digits : List ℕ) (k : ℕ) (e : Entry) (here : slice_get entries k ≡ Some e) where
  at_or_before : (at : ℕ) (entry : Entry) → at < k + 1 → slice_get entries at ≡ Some entry → (at < k) ⊎ (entry ≡ e)
  at_or_before at entry lt is =
      elim (cases_lt at k) [
        | inl less ↦ inl less
        | inr ge ↦
            let same : at ≡ k = omega (arith, lt, ge) in
            inr (same_entry entry e (sym is ∙ ap (slice_get entries) same ∙ here))
      ]

  pub step : (best result : Option (Bor Entry)) → SeenLongest entries digits k best → MatchOption result ((best ≡ None) × (begins_with digits e ≡ false)) (λ x. IsBetter digits best e x.now) → SeenLongest entries digits (k + 1) result
  step best None seen m = λ at entry lt is begun.
      elim (at_or_before at entry lt is) [
        | inl less ↦ (subst (λ (b : Option (Bor Entry)). SeenLongest entries digits k b) m.0 seen) at entry less is begun
        | inr same ↦ true≢false (sym begun ∙ ap (begins_with digits) same ∙ m.1)
      ]
  step None (Some x) seen m =
      let own : x.now ≡ e = m.1 in (
        (k, here ∙ ap Some (sym own)),
        ap (begins_with digits) own ∙ m.0,
        λ at entry lt is begun.
            elim (at_or_before at entry lt is) [
              | inl less ↦ absurd (seen at entry less is begun)
              | inr same ↦
                  let n : length entry.start.items ≡ length x.now.start.items = ap (λ (y : Entry). length y.start.items) (same ∙ sym own) in
                  omega (arith, n)
            ],
      )
  step (Some b) (Some x) seen (inl m) =
      let own : x.now ≡ e = m.2 in
      let more : length b.now.start.items < length e.start.items = m.1 in
      let len : length x.now.start.items ≡ length e.start.items = ap (λ (y : Entry). length y.start.items) own in (
        (k, here ∙ ap Some (sym own)),
        ap (begins_with digits) own ∙ m.0,
        λ at entry lt is begun.
            elim (at_or_before at entry lt is) [
              | inl less ↦ let few = seen.2 at entry less is begun in omega (arith, few, more, len)
              | inr same ↦
                  let n : length entry.start.items ≡ length x.now.start.items = ap (λ (y : Entry). length y.start.items) (same ∙ sym own) in
                  omega (arith, n)
            ],
      )
  step (Some b) (Some x) seen (inr m) =
      let own : x.now ≡ b.now = m.1 in
      let len : length x.now.start.items ≡ length b.now.start.items = ap (λ (y : Entry). length y.start.items) own in (
        (seen.0.0, seen.0.1 ∙ ap Some (sym own)),
        ap (begins_with digits) own ∙ seen.1,
        λ at entry lt is begun.
            elim (at_or_before at entry lt is) [
              | inl less ↦ let few = seen.2 at entry less is begun in omega (arith, few, len)
              | inr same ↦
                  let few = m.0 (ap (begins_with digits) (sym same) ∙ begun) in
                  let n : length entry.start.items ≡ length e.start.items = ap (λ (y : Entry). length y.start.items) same in
                  omega (arith, few, n, len)
            ],
      )

pub all_seen : (entries : List Entry) (digits : List ℕ) (k : ℕ) (best : Option (Bor Entry)) → ((at : ℕ) (entry : Entry) → slice_get entries at ≡ Some entry → at < k) → SeenLongest entries digits k best → IsLongest entries digits best
all_seen entries digits k None within seen = λ at entry is begun. seen at entry (within at entry is) is begun
all_seen entries digits k (Some b) within seen = (seen.0, seen.1, λ at entry is begun. seen.2 at entry (within at entry is) is begun)
