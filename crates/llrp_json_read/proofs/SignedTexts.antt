-- The texts of numbers with a sign.
use Rattle.std.proofs.Common.{◌≡◌, ℕ, ◌-◌, ◌<◌, ◌≤◌, inl, inr, List, ◌∷◌, Option, Some, None, sym, ap, ◌∙◌, arith, decimal}
use Rattle.std.specs.Prelude.{MatchOption}
use Rattle.std.proofs.lemmas.Fmt.{decimal_injective}
use Rattle.llrp_listing.specs.NodeLine.{signed_text}
use Rattle.llrp_listing.proofs.NumberWords.{no_minus, sides, signed_negative, signed_positive}

-- no number below zero has the digit 0 after its minus
pub no_minus_zero : (digits : List ℕ) (size : ℕ) → size ≡ 0 → digits ≡ decimal size → (n : ℕ) → 128 ≤ n → n < 256 → digits ≡ decimal (256 - n) → ⊥
no_minus_zero digits size zero is n le lt e =
    let same : size ≡ 256 - n = decimal_injective size (256 - n) (omega arith) (omega arith) (sym is ∙ e) in
    omega (arith, same)

-- what is read after a minus
pub after_minus : (digits : List ℕ) (r : Option ℕ) → MatchOption r ((n : ℕ) → 128 ≤ n → n < 256 → digits ≡ decimal (256 - n) → ⊥) (λ n. (128 ≤ n) × (n < 256) × (digits ≡ decimal (256 - n)))
    → MatchOption r ((n : ℕ) → n < 256 → 45 ∷ digits ≡ signed_text n → ⊥) (λ n. (n < 256) × (45 ∷ digits ≡ signed_text n))
after_minus digits (Some n) h = (h.1, ap (λ (z : List ℕ). 45 ∷ z) h.2 ∙ sym (signed_negative n h.0))
after_minus digits None h = below
  where
    below : (n : ℕ) → n < 256 → 45 ∷ digits ≡ signed_text n → ⊥
    below n lt e = elim (sides n) [
      | inl small ↦ no_minus n small digits (e ∙ signed_positive n small)
      | inr large ↦ h n large lt (let t : 45 ∷ digits ≡ 45 ∷ decimal (256 - n) = e ∙ signed_negative n large in cc)
    ]

-- what is read where there is no minus
pub without_minus : (text : List ℕ) (r : Option ℕ) → ((ds : List ℕ) → text ≡ 45 ∷ ds → ⊥) → MatchOption r ((n : ℕ) → n < 128 → text ≡ decimal n → ⊥) (λ n. (n < 128) × (text ≡ decimal n))
    → MatchOption r ((n : ℕ) → n < 256 → text ≡ signed_text n → ⊥) (λ n. (n < 256) × (text ≡ signed_text n))
without_minus text (Some n) unsigned h = (omega (arith, h.0), h.1 ∙ sym (signed_positive n h.0))
without_minus text None unsigned h = from
  where
    from : (n : ℕ) → n < 256 → text ≡ signed_text n → ⊥
    from n lt e = elim (sides n) [
      | inl small ↦ h n small (e ∙ signed_positive n small)
      | inr large ↦ unsigned (decimal (256 - n)) (e ∙ signed_negative n large)
    ]
