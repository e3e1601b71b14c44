-- The digits that a partition table gives a reference.
use Rattle.std.proofs.Common.{◌≡◌, ℕ, zero, suc, ◌+◌, ◌-◌, ◌<◌, ◌≤◌, true, false, not, List, [], ◌∷◌, Option, Some, None, refl, ◌∙◌, arith, inl, inr}
use Rattle.std.specs.Prelude.{◌==◌, ◌⊎◌, slice_get, option_map}
use Rattle.std.proofs.lemmas.Bool.{eqb-true, ne_eqb, eq-eqb, cases_lt}
use Rattle.tag_epc.specs.declared.scheme.Row.{Row}
use Rattle.tag_epc.specs.Layout.{Layout, row_at}
use Rattle.tag_epc.specs.Calls.Layout.{is_sound}
use Rattle.tag_epc.proofs.Soundness.{FitsRow, sound as is_sound_layout}
use Rattle.tag_uri.specs.TagText.{reference_digits, is_no_row}
use Rattle.tag_uri.proofs.ComponentLemmas.{not_false}

-- an option is empty or not
pub option_cases : {A : Type 0} (o : Option A) → (o ≡ None) ⊎ ((x : A) × (o ≡ Some x))
option_cases None = inl refl
option_cases (Some x) = inr (x, refl)

-- each row of a sound layout
pub row_fits : (l : Layout) → is_sound l ≡ true → (p : ℕ) (r : Row) → row_at l p ≡ Some r → FitsRow l p r
row_fits l h = (is_sound_layout l h).rows

-- from the row at q on, company digits and place make 12
abbrev CountDown : ℕ → List Row → Type 0
CountDown q rs = (p : ℕ) (r : Row) → slice_get rs p ≡ Some r → r.company_digits + (q + p) ≡ 12

next : (q : ℕ) (x : Row) (rs : List Row) → CountDown q (x ∷ rs) → CountDown (q + 1) rs
next q x rs h p r e = omega (arith, h (suc p) r e)

-- the row that a table has for this many company digits
looked_up : (q k p : ℕ) (rs : List Row) → CountDown q rs → q + p + k ≡ 12 → reference_digits rs k ≡ option_map (λ r. r.reference_digits) (slice_get rs p)
looked_up q k p [] h e = refl
looked_up q k zero (x ∷ rs) h e =
    let same : (x.company_digits == k) ≡ true = eq-eqb x.company_digits k (omega (arith, h zero x refl)) in
    rw same refl
looked_up q k (suc p) (x ∷ rs) h e =
    let other : (x.company_digits == k) ≡ false = ne_eqb x.company_digits k (λ same. omega (arith, h zero x refl, same)) in
    rw other (looked_up (q + 1) k p rs (next q x rs h) (omega arith))

no_row : (q k : ℕ) (rs : List Row) → CountDown q rs → 12 < k → reference_digits rs k ≡ None
no_row q k [] h e = refl
no_row q k (x ∷ rs) h e =
    let other : (x.company_digits == k) ≡ false = ne_eqb x.company_digits k (λ same. omega (arith, h zero x refl, same)) in
    rw other (no_row (q + 1) k rs (next q x rs h) e)

counts_down : (l : Layout) → is_sound l ≡ true → CountDown 0 l.rows
counts_down l sound p r e = omega (arith, (row_fits l sound p r e).digits)

-- the digits of the reference beside k digits of the company prefix
pub reference_digits-at : (l : Layout) (k p : ℕ) → is_sound l ≡ true → p + k ≡ 12 → reference_digits l.rows k ≡ option_map (λ r. r.reference_digits) (row_at l p)
reference_digits-at l k p sound e = looked_up 0 k p l.rows (counts_down l sound) (omega arith)

pub reference_digits-over : (l : Layout) (k : ℕ) → is_sound l ≡ true → 12 < k → reference_digits l.rows k ≡ None
reference_digits-over l k sound e = no_row 0 k l.rows (counts_down l sound) e

pub no_row-over : (l : Layout) (k m : ℕ) → is_sound l ≡ true → 12 < k → true ≡ is_no_row l.rows k m
no_row-over l k m sound e = rw (reference_digits-over l k sound e) refl

pub no_row-none : (l : Layout) (k m : ℕ) → is_sound l ≡ true → k ≤ 12 → row_at l (12 - k) ≡ None → true ≡ is_no_row l.rows k m
no_row-none l k m sound e none = rw (reference_digits-at l k (12 - k) sound (omega arith), none) refl

pub no_row-some : (l : Layout) (k m : ℕ) (r : Row) → is_sound l ≡ true → k ≤ 12 → row_at l (12 - k) ≡ Some r → not (r.reference_digits == m) ≡ is_no_row l.rows k m
no_row-some l k m r sound e some = rw (reference_digits-at l k (12 - k) sound (omega arith), some) refl

-- the row of k digits of the company prefix and m of the reference
pub record RowOf (l : Layout) (k m : ℕ) : Type 0 where
  pub row : Row
  pub short : k ≤ 12
  pub placed : row_at l (12 - k) ≡ Some row
  pub digits : row.reference_digits ≡ m

-- a reference has at most twelve digits
pub few_digits : (l : Layout) (k m : ℕ) → is_sound l ≡ true → RowOf l k m → m ≤ 12
few_digits l k m sound r = let digits = r.digits in omega (arith, (row_fits l sound (12 - k) r.row r.placed).short)

pub row_of_digits : (l : Layout) (k m : ℕ) → is_sound l ≡ true → is_no_row l.rows k m ≡ false → RowOf l k m
row_of_digits l k m sound h =
    elim (cases_lt 12 k) [
      | inl over ↦ let no = no_row-over l k m sound over in cc
      | inr le ↦
          let few : k ≤ 12 = omega arith in
          elim (option_cases (row_at l (12 - k))) [
            | inl none ↦ let no = no_row-none l k m sound few none in cc
            | inr x ↦
                let e = no_row-some l k m x.0 sound few x.1 in
                record { row = x.0; short = few; placed = x.1; digits = eqb-true x.0.reference_digits m (not_false (x.0.reference_digits == m) (e ∙ h)) }
          ]
    ]
