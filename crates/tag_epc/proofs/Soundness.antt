-- What a sound layout says of its header, its last segment and its rows.
use Rattle.std.proofs.Common.{◌≡◌, ℕ, zero, suc, ◌+◌, ◌^◌, ◌<◌, ◌≤◌, Bool, true, false, List, [], ◌∷◌, Option, Some, None, refl, sym, ap, ◌∙◌, subst, arith, length}
use Rattle.std.specs.Prelude.{◌&&◌, ◌==◌, nat_le, slice_get}
use Rattle.std.proofs.lemmas.Bool.{leb-true, eqb-true}
use Rattle.tag_epc.specs.declared.scheme.Row.{Row}
use Rattle.tag_epc.specs.declared.kind.Kind.{Kind}
use Rattle.tag_epc.specs.declared.kind.Kind.TheVariants.{Gid}
use Rattle.tag_epc.specs.Layout.{Layout, row_at, layout_of}
use Rattle.tag_epc.specs.Calls.Layout.{row_is_sound, rows_are_sound, is_sound}

-- a row's segments fill the word, and each number of its decimal digits has as many binary digits
pub record FitsRow (l : Layout) (p : ℕ) (r : Row) : Type 0 where
  pub partition : p < 7
  pub fills : 8 + 3 + 3 + r.company_bits + r.reference_bits + l.last_bits ≡ 96
  pub company : 10 ^ r.company_digits ≤ 2 ^ r.company_bits
  pub reference : 10 ^ r.reference_digits ≤ 2 ^ r.reference_bits
  pub digits : r.company_digits + p ≡ 12
  pub short : r.reference_digits ≤ 12

-- header, last segment and each row fit
pub record IsSound (l : Layout) : Type 0 where
  pub header : l.header < 2 ^ 8
  pub last : l.last_bits < 64
  pub rows : (p : ℕ) (r : Row) → row_at l p ≡ Some r → FitsRow l p r

-- both tests hold
pub both : (a b : Bool) → (a && b) ≡ true → (a ≡ true) × (b ≡ true)
both true b h = (refl, h)
both false b h = cc

-- a row that passes its test
fits_row : (l : Layout) (p : ℕ) (r : Row) → p < 7 → row_is_sound l p r ≡ true → FitsRow l p r
fits_row l p r few h =
    let a = both _ _ h in let b = both _ _ a.0 in let d = both _ _ b.0 in let e = both _ _ d.0 in
    record {
      partition = few;
      fills = eqb-true (8 + 3 + 3 + r.company_bits + r.reference_bits + l.last_bits) 96 e.0;
      company = leb-true (10 ^ r.company_digits) (2 ^ r.company_bits) e.1;
      reference = leb-true (10 ^ r.reference_digits) (2 ^ r.reference_bits) d.1;
      digits = eqb-true (r.company_digits + p) 12 b.1;
      short = leb-true r.reference_digits 12 a.1;
    }

-- each row of rows that pass their tests
fits_rows : (l : Layout) (q : ℕ) (rs : List Row) → q + length rs ≤ 7 → rows_are_sound l q rs ≡ true → (p : ℕ) (r : Row) → slice_get rs p ≡ Some r → FitsRow l (q + p) r
fits_rows l q [] few h p r e = cc
fits_rows l q (x ∷ rs) few h zero r e =
    let same : x ≡ r = cc in
    let here : q ≡ q + zero = omega arith in
    subst (λ (k : ℕ). FitsRow l k r) here (subst (λ (y : Row). FitsRow l q y) same (fits_row l q x (omega arith) (both _ _ h).0))
fits_rows l q (x ∷ rs) few h (suc p) r e =
    let there : q + 1 + p ≡ q + suc p = omega arith in
    let room : q + 1 + length rs ≤ 7 = omega arith in
    subst (λ (k : ℕ). FitsRow l k r) there (fits_rows l (q + 1) rs room (both _ _ h).1 p r e)

-- a layout that passes its test
pub sound : (l : Layout) → is_sound l ≡ true → IsSound l
sound l h =
    let a : ((nat_le l.header 255 && (length l.rows == 7) && nat_le l.last_bits 63) ≡ true) × (rows_are_sound l 0 l.rows ≡ true) = both _ _ h in
    let b : ((nat_le l.header 255 && (length l.rows == 7)) ≡ true) × (nat_le l.last_bits 63 ≡ true) = both _ _ a.0 in
    let d : (nat_le l.header 255 ≡ true) × ((length l.rows == 7) ≡ true) = both _ _ b.0 in
    let header : l.header ≤ 255 = leb-true l.header 255 d.0 in
    let seven : length l.rows ≡ 7 = eqb-true (length l.rows) 7 d.1 in
    let last : l.last_bits ≤ 63 = leb-true l.last_bits 63 b.1 in
    let few : 0 + length l.rows ≤ 7 = omega arith in
    record {
      header = omega arith;
      last = omega arith;
      rows = λ p r e. let here : 0 + p ≡ p = omega arith in subst (λ (k : ℕ). FitsRow l k r) here (fits_rows l 0 l.rows few a.1 p r e);
    }

-- a layout, if there is one, is sound
abbrev sound_if_any : Option Layout → Bool
sound_if_any None = true
sound_if_any (Some l) = is_sound l

-- this computes for each scheme
kind_sound : (k : Kind) → sound_if_any (layout_of k) ≡ true
kind_sound Gid = refl
kind_sound _ = refl

-- each scheme's layout is sound
pub layout_sound : (k : Kind) (l : Layout) → layout_of k ≡ Some l → IsSound l
layout_sound k l e = sound l (ap sound_if_any (sym e) ∙ kind_sound k)
