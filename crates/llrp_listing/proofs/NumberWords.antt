-- What the words of numbers say.
use Rattle.std.proofs.Common.{◌≡◌, ℕ, ◌-◌, ◌^◌, ◌<◌, ◌≤◌, ◌⊎◌, inl, inr, Bool, true, false, List, ◌∷◌, Some, None, Result, Ok, Err, refl, sym, ap, ◌∙◌, arith, decimal, [], length, get_or, drop, take}
use Rattle.std.proofs.lemmas.List.{take_all}
use Rattle.std.specs.Prelude.{nat_lt, ◌&&◌}
use Rattle.std.specs.Char.{is_ascii_digit}
use Rattle.std.specs.Str.{all_ascii_digits}
use Rattle.llrp_listing.specs.declared.outcome.Refusal.{Refusal}
use Rattle.llrp_listing.specs.declared.outcome.Refusal.TheVariants as refusal
use Rattle.llrp_listing.specs.LineChecks.{IsInForm}
use Rattle.llrp_listing.specs.Private.LineChecks.{ReadsNumber}
use Rattle.llrp_listing.specs.Private.LineReading.{ReadsNegative, ReadsPositive}
use Rattle.llrp_listing.specs.NodeLine.{Version, Id, Unsigned, Signed, signed_text}
use Rattle.llrp_listing.specs.Private.Numeral.{numeral}
use Rattle.llrp_listing.proofs.DecimalWords.{digits_of, numeral_is, no_text, same_number}

-- a number of each decimal form is below 10 ^ 20
wide : (n k : ℕ) → k ≤ 10 ^ 20 → n < k → n < 10 ^ 20
wide n k le lt = omega arith

pub version_small : (n : ℕ) → IsInForm Version n → n < 10 ^ 20
version_small n (inl e) = omega arith
version_small n (inr e) = omega arith

pub version_none : (w : List ℕ) → numeral w ≡ None → ReadsNumber Version w (Err refusal.Number)
version_none w none = (λ has. no_text w none has.0 (version_small has.0 has.1) has.2, refl)

pub version_other : (w : List ℕ) (n : ℕ) → numeral w ≡ Some n → (n ≡ 1 → ⊥) → (n ≡ 2 → ⊥) → ReadsNumber Version w (Err refusal.Number)
version_other w n is a b = (λ has. other has.0 has.1 (same_number w n has.0 is (version_small has.0 has.1) has.2), refl)
  where
    other : (m : ℕ) → IsInForm Version m → n ≡ m → ⊥
    other m (inl e) f = a (f ∙ e)
    other m (inr e) f = b (f ∙ e)

pub version_read : (w : List ℕ) (n : ℕ) → numeral w ≡ Some n → 0 < n → n ≤ 2 → ReadsNumber Version w (Ok n)
version_read w n is some few = (which n some few, (numeral_is w n is).text)
  where
    which : (n : ℕ) → 0 < n → n ≤ 2 → (n ≡ 1) ⊎ (n ≡ 2)
    which n some few = grind arith

pub id_none : (w : List ℕ) → numeral w ≡ None → ReadsNumber Id w (Err refusal.Number)
id_none w none = (λ has. no_text w none has.0 (omega (arith, has.1)) has.2, refl)

pub id_other : (w : List ℕ) (n : ℕ) → numeral w ≡ Some n → 2 ^ 32 ≤ n → ReadsNumber Id w (Err refusal.Number)
id_other w n is le = (λ has. (let e : n ≡ has.0 = same_number w n has.0 is (omega (arith, has.1)) has.2 in absurd (omega (arith, has.1))), refl)

pub id_read : (w : List ℕ) (n : ℕ) → numeral w ≡ Some n → n < 2 ^ 32 → ReadsNumber Id w (Ok n)
id_read w n is lt = (lt, (numeral_is w n is).text)

pub unsigned_none : (w : List ℕ) → numeral w ≡ None → ReadsNumber Unsigned w (Err refusal.Number)
unsigned_none w none = (λ has. no_text w none has.0 has.1 has.2, refl)

pub unsigned_read : (w : List ℕ) (n : ℕ) → numeral w ≡ Some n → ReadsNumber Unsigned w (Ok n)
unsigned_read w n is = let r = numeral_is w n is in (r.below, r.text)

-- ---- signed

pub positive_none : (w : List ℕ) → numeral w ≡ None → ReadsPositive w (Err refusal.Number)
positive_none w none = (refl, λ n lt e. no_text w none n (omega arith) e)

pub positive_other : (w : List ℕ) (n : ℕ) → numeral w ≡ Some n → 127 < n → ReadsPositive w (Err refusal.Number)
positive_other w n is le = (refl, λ m lt e. (let f : n ≡ m = same_number w n m is (omega arith) e in absurd (omega arith)))

pub positive_read : (w : List ℕ) (n : ℕ) → numeral w ≡ Some n → n ≤ 127 → ReadsPositive w (Ok n)
positive_read w n is le = (omega arith, (numeral_is w n is).text)

pub negative_none : (w : List ℕ) → numeral w ≡ None → ReadsNegative w (Err refusal.Number)
negative_none w none = (refl, λ n le lt e. no_text w none (256 - n) (omega arith) e)

pub negative_other : (w : List ℕ) (n : ℕ) → numeral w ≡ Some n → (1 ≤ n → n ≤ 128 → ⊥) → ReadsNegative w (Err refusal.Number)
negative_other w n is outside = (refl, λ m le lt e. (let f : n ≡ 256 - m = same_number w n (256 - m) is (omega arith) e in outside (omega arith) (omega arith)))

pub negative_read : (w : List ℕ) (n : ℕ) → numeral w ≡ Some n → 1 ≤ n → n ≤ 128 → ReadsNegative w (Ok (256 - n))
negative_read w n is some few = let e : 256 - (256 - n) ≡ n = omega arith in (omega arith, omega arith, (numeral_is w n is).text ∙ ap decimal (sym e))

-- a text of eight bits begins with a minus, or is that of a number from 0 to 127
pub signed_positive : (n : ℕ) → n < 128 → signed_text n ≡ decimal n
signed_positive n lt = let t : nat_lt n 128 ≡ true = grind arith in rw t refl

pub signed_negative : (n : ℕ) → 128 ≤ n → signed_text n ≡ 45 ∷ decimal (256 - n)
signed_negative n le = let t : nat_lt n 128 ≡ false = grind arith in rw t refl

-- no digits begin with a minus
pub no_minus : (n : ℕ) → n < 128 → (ds : List ℕ) → 45 ∷ ds ≡ decimal n → ⊥
no_minus n lt ds e =
    let d = digits_of n (omega arith) in
    let t : all_ascii_digits (45 ∷ ds) ≡ true = ap all_ascii_digits e ∙ d.digits in
    false_digit (all_ascii_digits ds) t
  where
    false_digit : (b : Bool) → (is_ascii_digit 45 && b) ≡ true → ⊥
    false_digit b t = cc

pub sides : (n : ℕ) → (n < 128) ⊎ (128 ≤ n)
sides n = grind arith

-- what is read after a minus
pub signed_below : (ds : List ℕ) (r : Result ℕ Refusal) → ReadsNegative ds r → ReadsNumber Signed (45 ∷ ds) r
signed_below ds (Ok n) h = (h.1, ap (λ (z : List ℕ). 45 ∷ z) h.2 ∙ sym (signed_negative n h.0))
signed_below ds (Err reason) h = (λ has. below has.0 has.1 has.2, h.0)
  where
    below : (n : ℕ) → n < 2 ^ 8 → 45 ∷ ds ≡ signed_text n → ⊥
    below n lt e = elim (sides n) [
      | inl small ↦ no_minus n small ds (e ∙ signed_positive n small)
      | inr large ↦ h.1 n large (omega arith) (let t : 45 ∷ ds ≡ 45 ∷ decimal (256 - n) = e ∙ signed_negative n large in cc)
    ]

-- a word that begins with a minus
pub sign_first : (w : List ℕ) → 1 ≤ length w → get_or w 0 0 ≡ 45 → w ≡ 45 ∷ take (length w - 1) (drop 1 w)
sign_first [] some e = absurd (omega (arith, some))
sign_first (c ∷ w) some e =
    let all : take (length (c ∷ w) - 1) w ≡ w = take_all (length (c ∷ w) - 1) w (omega arith) in
    ap (λ (z : ℕ). z ∷ w) e ∙ ap (λ (z : List ℕ). 45 ∷ z) (sym all)

-- what is read where there is no minus
pub signed_from : (w : List ℕ) (r : Result ℕ Refusal) → ((ds : List ℕ) → w ≡ 45 ∷ ds → ⊥) → ReadsPositive w r → ReadsNumber Signed w r
signed_from w (Ok n) unsigned h = (omega (arith, h.0), h.1 ∙ sym (signed_positive n h.0))
signed_from w (Err reason) unsigned h = (λ has. from has.0 has.1 has.2, h.0)
  where
    from : (n : ℕ) → n < 2 ^ 8 → w ≡ signed_text n → ⊥
    from n lt e = elim (sides n) [
      | inl small ↦ h.1 n small (e ∙ signed_positive n small)
      | inr large ↦ unsigned (decimal (256 - n)) (e ∙ signed_negative n large)
    ]
