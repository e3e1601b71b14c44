-- The first of the numbers after a partition value that does not fit.
use Rattle.std.proofs.Common.{◌≡◌, ℕ, ◌+◌, ◌*◌, ◌/◌, ◌%◌, ◌^◌, ◌<◌, ◌≤◌, Bool, true, false, List, [], ◌∷◌, refl, arith}
use Rattle.std.specs.Prelude.{nat_eq}
use Rattle.std.proofs.lemmas.Bool.{eqb-true, eq-eqb}
use Rattle.std.proofs.Math.Nat.{div-eq_of_lt}
use Rattle.std.proofs.lemmas.Nat.{pow_pos, shr_split, mod_below}
use Rattle.tag_epc.specs.declared.scheme.Row.{Row}
use Rattle.tag_epc.specs.Layout.{Layout, fixed, plain_segment, last_decimals, last_segment, number_segments}
use Rattle.tag_epc.specs.LawfulWord.{Field, Fits, AllFit, fill}
use Rattle.tag_epc.specs.Faults.{FirstUnfit}
use Rattle.tag_epc.proofs.Soundness.{FitsRow}

-- a number in a segment of decimal digits
pub fits_fixed : (w k n : ℕ) → 10 ^ k ≤ 2 ^ w → n < 10 ^ k → Fits (record { segment = fixed w k; number = n })
fits_fixed w k n room h = record { bits = omega arith; decimals = h }

-- a number in a segment of any number
pub fits_plain : (w n : ℕ) → n < 2 ^ w → Fits (record { segment = plain_segment w; number = n })
fits_plain w n h = record { bits = h; decimals = tt }

-- a last part of any number of its bits
pub any_fits : (z : Bool) (w n : ℕ) → z ≡ false → n < 2 ^ w → Fits (record { segment = record { width = w; decimals = last_decimals z }; number = n })
any_fits true w n e h = cc
any_fits false w n e h = record { bits = h; decimals = tt }

-- the numbers of a row
abbrev pub numbers : Layout → Row → ℕ → ℕ → ℕ → List Field
numbers l r c t n = fill (number_segments l r) (c ∷ t ∷ n ∷ [])

-- a company prefix of too many digits
pub company_unfit : (l : Layout) (r : Row) (c t n : ℕ) → 10 ^ r.company_digits ≤ c → FirstUnfit (numbers l r c t n) 0
company_unfit l r c t n h = record {
  unfit = record { segment = fixed r.company_bits r.company_digits; number = c };
  stands = refl;
  before = tt;
  fails = λ f. let d : c < 10 ^ r.company_digits = f.decimals in omega arith;
}

-- a reference of too many digits after a company prefix that fits
pub reference_unfit : (l : Layout) (r : Row) (p c t n : ℕ) → FitsRow l p r → c < 10 ^ r.company_digits → 10 ^ r.reference_digits ≤ t → FirstUnfit (numbers l r c t n) 1
reference_unfit l r p c t n s a h = record {
  unfit = record { segment = fixed r.reference_bits r.reference_digits; number = t };
  stands = refl;
  before = (fits_fixed r.company_bits r.company_digits c s.company a, tt);
  fails = λ f. let d : t < 10 ^ r.reference_digits = f.decimals in omega arith;
}

-- a last part that does not fit after numbers that do
pub last_unfit : (l : Layout) (r : Row) (p c t n : ℕ) → FitsRow l p r → c < 10 ^ r.company_digits → t < 10 ^ r.reference_digits
    → ¬ Fits (record { segment = last_segment l; number = n }) → FirstUnfit (numbers l r c t n) 2
last_unfit l r p c t n s a b h = record {
  unfit = record { segment = last_segment l; number = n };
  stands = refl;
  before = (fits_fixed r.company_bits r.company_digits c s.company a, (fits_fixed r.reference_bits r.reference_digits t s.reference b, tt));
  fails = h;
}

-- numbers that all fit
pub all_fit : (l : Layout) (r : Row) (p c t n : ℕ) → FitsRow l p r → c < 10 ^ r.company_digits → t < 10 ^ r.reference_digits
    → Fits (record { segment = last_segment l; number = n }) → AllFit (numbers l r c t n)
all_fit l r p c t n s a b h = (fits_fixed r.company_bits r.company_digits c s.company a, (fits_fixed r.reference_bits r.reference_digits t s.reference b, (h, tt)))

-- a number with nothing above its lower bits
pub below_shifted : (n k : ℕ) → n / 2 ^ k ≡ 0 → n < 2 ^ k
below_shifted n k h =
    let e : 0 * 2 ^ k + n % 2 ^ k ≡ n = rw h at (shr_split n k) in
    omega (arith, e, mod_below n (2 ^ k) (pow_pos k))

-- the test of a last part that may be any number of its bits
pub shift_tells : (z : Bool) (w n : ℕ) → z ≡ false
    → (nat_eq (n / 2 ^ w) 0 ≡ true → Fits (record { segment = record { width = w; decimals = last_decimals z }; number = n }))
    × (Fits (record { segment = record { width = w; decimals = last_decimals z }; number = n }) → nat_eq (n / 2 ^ w) 0 ≡ true)
shift_tells z w n e = (
  λ h. any_fits z w n e (below_shifted n w (eqb-true (n / 2 ^ w) 0 h)),
  λ f. eq-eqb (n / 2 ^ w) 0 (div-eq_of_lt f.bits),
)
