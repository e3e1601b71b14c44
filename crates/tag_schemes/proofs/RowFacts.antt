-- What the rows of the further schemes say.
use Rattle.std.proofs.Common.{get_or, ◌≡◌, ℕ, zero, suc, ◌+◌, ◌^◌, ◌<◌, ◌≤◌, Bool, true, List, [], ◌∷◌, Some, refl, subst, arith, length}
use Rattle.std.specs.Prelude.{◌&&◌, ◌==◌, nat_le, slice_get}
use Rattle.std.proofs.lemmas.Bool.{leb-true, eqb-true}
use Rattle.std.proofs.lemmas.Option.{slice_get-get_or}
use Rattle.tag_epc.specs.declared.scheme.Row.{Row}
use Rattle.tag_epc.specs.Layout.{Layout, row_at}
use Rattle.tag_epc.proofs.Soundness.{both}
use Rattle.tag_schemes.specs.declared.scheme.Scheme.{Scheme}
use Rattle.tag_schemes.specs.declared.scheme.Scheme.TheVariants.{Giai, Gsrnp, Sgcn, Cpi}
use Rattle.tag_schemes.specs.Schemes.{layout_in}

-- a row's segments fill the word, its digits make 12 with the partition value, and its company prefix fits its bits
pub record Fills (l : Layout) (p : ℕ) (r : Row) : Type 0 where
  pub partition : p < 7
  pub fills : 14 + r.company_bits + r.reference_bits + l.last_bits ≡ 96
  pub company : 10 ^ r.company_digits ≤ 2 ^ r.company_bits
  pub digits : r.company_digits + p ≡ 12
  pub narrow : r.company_bits ≤ 40
  pub reference : r.reference_bits ≤ 62
  pub last : l.last_bits ≤ 41

abbrev fills_row : Layout → ℕ → Row → Bool
fills_row l p r =
    (14 + r.company_bits + r.reference_bits + l.last_bits == 96) && (nat_le (10 ^ r.company_digits) (2 ^ r.company_bits)
    && ((r.company_digits + p == 12) && (nat_le r.company_bits 40 && (nat_le r.reference_bits 62 && nat_le l.last_bits 41))))

abbrev fill_rows : Layout → ℕ → List Row → Bool
fill_rows l p [] = true
fill_rows l p (r ∷ rs) = fills_row l p r && fill_rows l (p + 1) rs

one_row : (l : Layout) (p : ℕ) (r : Row) → p < 7 → fills_row l p r ≡ true → Fills l p r
one_row l p r few h =
    let a = both _ _ h in let b = both _ _ a.1 in let d = both _ _ b.1 in let e = both _ _ d.1 in let f = both _ _ e.1 in
    record {
      partition = few;
      fills = eqb-true (14 + r.company_bits + r.reference_bits + l.last_bits) 96 a.0;
      company = leb-true (10 ^ r.company_digits) (2 ^ r.company_bits) b.0;
      digits = eqb-true (r.company_digits + p) 12 d.0;
      narrow = leb-true r.company_bits 40 e.0;
      reference = leb-true r.reference_bits 62 f.0;
      last = leb-true l.last_bits 41 f.1;
    }

each_row : (l : Layout) (q : ℕ) (rs : List Row) → q + length rs ≤ 7 → fill_rows l q rs ≡ true → (p : ℕ) (r : Row) → slice_get rs p ≡ Some r → Fills l (q + p) r
each_row l q [] few h p r e = cc
each_row l q (x ∷ rs) few h zero r e =
    let same : x ≡ r = cc in
    let here : q ≡ q + zero = omega arith in
    subst (λ (k : ℕ). Fills l k r) here (subst (λ (y : Row). Fills l q y) same (one_row l q x (omega arith) (both _ _ h).0))
each_row l q (x ∷ rs) few h (suc p) r e =
    let there : q + 1 + p ≡ q + suc p = omega arith in
    subst (λ (k : ℕ). Fills l k r) there (each_row l (q + 1) rs (omega arith) (both _ _ h).1 p r e)

-- this computes for each scheme
scheme_fills : (s : Scheme) → fill_rows (layout_in s) 0 (layout_in s).rows ≡ true
scheme_fills Giai = refl
scheme_fills Gsrnp = refl
scheme_fills Sgcn = refl
scheme_fills Cpi = refl

seven : (s : Scheme) → length (layout_in s).rows ≡ 7
seven Giai = refl
seven Gsrnp = refl
seven Sgcn = refl
seven Cpi = refl

pub fills : (s : Scheme) (p : ℕ) (r : Row) → row_at (layout_in s) p ≡ Some r → Fills (layout_in s) p r
fills s p r e =
    let few = seven s in
    let here : 0 + p ≡ p = omega arith in
    subst (λ (k : ℕ). Fills (layout_in s) k r) here (each_row (layout_in s) 0 (layout_in s).rows (omega (arith, few)) (scheme_fills s) p r e)

-- the reference of a GIAI-96 has no more digits than the table says
abbrev wide_rows : List Row → Bool
wide_rows [] = true
wide_rows (r ∷ rs) = nat_le (2 ^ r.reference_bits) (10 ^ r.reference_digits) && wide_rows rs

wide : (rs : List Row) (p : ℕ) (r : Row) → wide_rows rs ≡ true → slice_get rs p ≡ Some r → 2 ^ r.reference_bits ≤ 10 ^ r.reference_digits
wide [] p r h e = cc
wide (x ∷ rs) zero r h e = let same : x ≡ r = cc in subst (λ (y : Row). 2 ^ y.reference_bits ≤ 10 ^ y.reference_digits) same (leb-true _ _ (both _ _ h).0)
wide (x ∷ rs) (suc p) r h e = wide rs p r (both _ _ h).1 e

pub asset_wide : (p : ℕ) (r : Row) → row_at (layout_in Giai) p ≡ Some r → 2 ^ r.reference_bits ≤ 10 ^ r.reference_digits
asset_wide p r e = wide (layout_in Giai).rows p r refl e

-- the reference of a GSRNP-96, SGCN-96 or CPI-96 has at most 11 digits, which fit its bits
abbrev short_rows : List Row → Bool
short_rows [] = true
short_rows (r ∷ rs) = (nat_le r.reference_digits 11 && nat_le (10 ^ r.reference_digits) (2 ^ r.reference_bits)) && short_rows rs

pub record Short (r : Row) : Type 0 where
  pub digits : r.reference_digits ≤ 11
  pub bits : 10 ^ r.reference_digits ≤ 2 ^ r.reference_bits

short : (rs : List Row) (p : ℕ) (r : Row) → short_rows rs ≡ true → slice_get rs p ≡ Some r → Short r
short [] p r h e = cc
short (x ∷ rs) zero r h e =
    let same : x ≡ r = cc in
    let two = both _ _ (both _ _ h).0 in
    subst (λ (y : Row). Short y) same (record { digits = leb-true x.reference_digits 11 two.0; bits = leb-true _ _ two.1 })
short (x ∷ rs) (suc p) r h e = short rs p r (both _ _ h).1 e

pub service_short : (p : ℕ) (r : Row) → row_at (layout_in Gsrnp) p ≡ Some r → Short r
service_short p r e = short (layout_in Gsrnp).rows p r refl e

pub coupon_short : (p : ℕ) (r : Row) → row_at (layout_in Sgcn) p ≡ Some r → Short r
coupon_short p r e = short (layout_in Sgcn).rows p r refl e

pub part_short : (p : ℕ) (r : Row) → row_at (layout_in Cpi) p ≡ Some r → Short r
part_short p r e = short (layout_in Cpi).rows p r refl e

-- each partition value up to six has a row
pub some_row : (s : Scheme) (p : ℕ) → p < 7 → (r : Row) × (row_at (layout_in s) p ≡ Some r)
some_row s p few =
    let none : Row = record { company_bits = 0; company_digits = 0; reference_bits = 0; reference_digits = 0 } in
    (get_or (layout_in s).rows p none, slice_get-get_or (layout_in s).rows p none (omega (arith, few, seven s)))

-- that of a CPI-96 at most nine
abbrev nine_rows : List Row → Bool
nine_rows [] = true
nine_rows (r ∷ rs) = nat_le (10 ^ r.reference_digits) (10 ^ 9) && nine_rows rs

nine : (rs : List Row) (p : ℕ) (r : Row) → nine_rows rs ≡ true → slice_get rs p ≡ Some r → 10 ^ r.reference_digits ≤ 10 ^ 9
nine [] p r h e = cc
nine (x ∷ rs) zero r h e = let same : x ≡ r = cc in subst (λ (y : Row). 10 ^ y.reference_digits ≤ 10 ^ 9) same (leb-true _ _ (both _ _ h).0)
nine (x ∷ rs) (suc p) r h e = nine rs p r (both _ _ h).1 e

pub part_few : (p : ℕ) (r : Row) → row_at (layout_in Cpi) p ≡ Some r → 10 ^ r.reference_digits ≤ 10 ^ 9
part_few p r e = nine (layout_in Cpi).rows p r refl e
