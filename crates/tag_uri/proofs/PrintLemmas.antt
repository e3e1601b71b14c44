-- What a lawful EPC's numbers need for their text.
use Rattle.std.proofs.Common.{◌≡◌, ℕ, ◌+◌, ◌-◌, ◌*◌, ◌^◌, ◌<◌, ◌≤◌, Bool, true, false, cond, List, [], ◌∷◌, ◌++◌, Option, Some, None, refl, sym, ap, ◌∙◌, subst, arith, length, append_assoc, inl, inr, lit≤}
use Rattle.std.specs.Prelude.{option_map, unwrap_or}
use Rattle.std.specs.List.{join_with_byte}
use Rattle.std.proofs.lemmas.Bool.{cases_lt}
use Rattle.std.proofs.lemmas.List.{append-nil}
use Rattle.std.proofs.lemmas.Nat.{pow-add}
use Rattle.std.proofs.Math.Nat.{pow-le-pow_right, one-le-pow, mul-le-mul}
use Rattle.tag_epc.specs.declared.kind.Kind.{Kind}
use Rattle.tag_epc.specs.declared.kind.Kind.TheVariants.{Sgtin, Gid}
use Rattle.tag_epc.specs.declared.scheme.Row.{Row}
use Rattle.tag_epc.specs.declared.epc.Parts.TheVariants.{Partitioned, General}
use Rattle.tag_epc.specs.Layout.{Layout, layout_of, scheme_name, row_at, last_segment}
use Rattle.tag_epc.specs.Calls.Layout.{is_sound}
use Rattle.tag_epc.specs.LawfulWord.{IsLawfulEpc, Fits}
use Rattle.tag_uri.specs.Decimal.{padded, plain}
use Rattle.tag_uri.specs.TagText.{reference_digits, partitioned_components}
use Rattle.tag_uri.proofs.DecimalLemmas.{plain_is}
use Rattle.tag_uri.proofs.ReadLemmas.{FitsLast, bool_cases}
use Rattle.tag_uri.proofs.RowDigits.{row_fits, reference_digits-at}

-- a name has at most eight letters
pub name_short : (k : Kind) → length (scheme_name k) ≤ 8
name_short Sgtin = lit≤ tt
name_short _ = lit≤ tt

-- the numbers of a lawful EPC at its row
pub record AtRow (l : Layout) (filter k company reference last : ℕ) : Type 0 where
  pub row : Row
  pub short : k ≤ 12
  pub placed : row_at l (12 - k) ≡ Some row
  pub filter_fits : filter < 8
  pub company_fits : company < 10 ^ k
  pub reference_fits : reference < 10 ^ row.reference_digits
  pub last_fits : FitsLast l last
  pub company_wide : 10 ^ k ≤ 2 ^ row.company_bits
  pub reference_wide : 10 ^ row.reference_digits ≤ 2 ^ row.reference_bits
  pub fills : row.company_bits + row.reference_bits + l.last_bits ≡ 82
  pub few : row.reference_digits ≤ 12

fits_last : (l : Layout) (n : ℕ) → Fits (record { segment = last_segment l; number = n }) → FitsLast l n
fits_last l n f = record { zero = λ e. let d = f.decimals in let z : n < 10 ^ 0 = rw e at d in omega arith; bits = λ e. f.bits }

pub same_some : {A : Type 0} (a b : A) → ◌≡◌ {A = Option A} (Some a) (Some b) → a ≡ b
same_some a b e = cc

pub at_row : (kind : Kind) (l : Layout) (f k c r last : ℕ) → layout_of kind ≡ Some l → is_sound l ≡ true → IsLawfulEpc (Partitioned kind f k c r last) → AtRow l f k c r last
at_row kind l f k c r last known sound h =
    let p = h.has in
    let same : p.layout ≡ l = same_some p.layout l (sym p.scheme ∙ known) in
    let placed : row_at l p.partition ≡ Some p.row = rw (← same) p.placed in
    let place : p.partition ≡ 12 - k = omega (arith, p.counted) in
    let fits = row_fits l sound p.partition p.row placed in
    let fit = h.fit in
    let filled = p.filled in
    let all = rw filled at fit in
    let counted : p.row.company_digits ≡ k = omega (arith, fits.digits, p.counted) in
    let company : c < 10 ^ p.row.company_digits = all.1.1.1.0.decimals in
    let reference : r < 10 ^ p.row.reference_digits = all.1.1.1.1.0.decimals in
    let three : f < 2 ^ 3 = all.1.0.bits in
    record {
      row = p.row;
      short = omega (arith, p.counted);
      placed = rw (← place) placed;
      filter_fits = omega arith;
      company_fits = rw counted at company;
      reference_fits = reference;
      last_fits = fits_last l last (subst (λ (m : Layout). Fits (record { segment = last_segment m; number = last })) same all.1.1.1.1.1.0);
      company_wide = let w = fits.company in rw counted at w;
      reference_wide = fits.reference;
      fills = omega (arith, fits.fills);
      few = fits.short;
    }

-- the plain text of a number of at most this many bits has no more digits than those bits have
plain_within : (w n : ℕ) → n < 2 ^ w → n < 2 ^ 64 → 10 ^ (length (plain n) - 1) ≤ 2 ^ w
plain_within w n below small =
    let p = plain_is n small in
    elim (cases_lt n (10 ^ (length (plain n) - 1))) [
      | inl less ↦
          elim (cases_lt 1 (length (plain n))) [
            | inl two ↦ let least = p.least (length (plain n) - 1) (omega arith) less in absurd (omega (arith, least))
            | inr one ↦ let z : length (plain n) - 1 ≡ 0 = omega arith in rw z (one-le-pow w 2 (omega arith))
          ]
      | inr ge ↦ omega (arith, ge, below)
    ]

-- numbers that fill a word have at most 25 digits together
few_digits : (k m d cb rb lb : ℕ) → 10 ^ k ≤ 2 ^ cb → 10 ^ m ≤ 2 ^ rb → 10 ^ d ≤ 2 ^ lb → cb + rb + lb ≡ 82 → k + m + d ≤ 24
few_digits k m d cb rb lb a b c e =
    let both : 10 ^ k * 10 ^ m ≤ 2 ^ cb * 2 ^ rb = mul-le-mul a b in
    let all : 10 ^ k * 10 ^ m * 10 ^ d ≤ 2 ^ cb * 2 ^ rb * 2 ^ lb = mul-le-mul both c in
    let left : 10 ^ (k + m + d) ≡ 10 ^ k * 10 ^ m * 10 ^ d = pow-add 10 (k + m) d ∙ ap (λ (x : ℕ). x * 10 ^ d) (pow-add 10 k m) in
    let right : 2 ^ (cb + rb + lb) ≡ 2 ^ cb * 2 ^ rb * 2 ^ lb = pow-add 2 (cb + rb) lb ∙ ap (λ (x : ℕ). x * 2 ^ lb) (pow-add 2 cb rb) in
    let there : 2 ^ cb * 2 ^ rb * 2 ^ lb ≡ 2 ^ 82 = sym right ∙ ap (λ (x : ℕ). 2 ^ x) e in
    let whole : 10 ^ (k + m + d) ≤ 2 ^ 82 = subst (λ (x : ℕ). x ≤ 2 ^ 82) (sym left) (subst (λ (y : ℕ). 10 ^ k * 10 ^ m * 10 ^ d ≤ y) there all) in
    elim (cases_lt 24 (k + m + d)) [
      | inl over ↦ let more : 10 ^ 25 ≤ 10 ^ (k + m + d) = pow-le-pow_right {n = 10} (omega arith) {i = 25} {j = k + m + d} (omega arith) in absurd (omega (arith, more, whole))
      | inr ok ↦ omega arith
    ]

-- what the row of the EPC's partition value says
pub record RowFacts (row : Row) (filter k company reference last : ℕ) : Type 0 where
  pub short : k ≤ 12
  pub filter_fits : filter < 10 ^ 1
  pub company_fits : company < 10 ^ k
  pub reference_fits : reference < 10 ^ row.reference_digits
  pub room : k + row.reference_digits + length (plain last) ≤ 25

pub row_facts : (kind : Kind) (l : Layout) (f k c r last : ℕ) (row : Row) → layout_of kind ≡ Some l → is_sound l ≡ true → IsLawfulEpc (Partitioned kind f k c r last) → last < 2 ^ 64 → row_at l (12 - k) ≡ Some row → RowFacts row f k c r last
row_facts kind l f k c r last row known sound h small placed =
    let a = at_row kind l f k c r last known sound h in
    let same : a.row ≡ row = same_some a.row row (sym a.placed ∙ placed) in
    let below : last < 2 ^ l.last_bits = elim (bool_cases l.zero_tail) [ inl e ↦ let z = a.last_fits.zero e in rw z (one-le-pow l.last_bits 2 (omega arith)) | inr e ↦ a.last_fits.bits e ] in
    let last_wide = plain_within l.last_bits last below small in
    let few = few_digits k a.row.reference_digits (length (plain last) - 1) a.row.company_bits a.row.reference_bits l.last_bits a.company_wide a.reference_wide last_wide a.fills in
    subst (λ (x : Row). RowFacts x f k c r last) same (record {
      short = a.short;
      filter_fits = let t = a.filter_fits in omega arith;
      company_fits = a.company_fits;
      reference_fits = a.reference_fits;
      room = omega (arith, few);
    })

pub has_row : (kind : Kind) (l : Layout) (f k c r last : ℕ) → layout_of kind ≡ Some l → is_sound l ≡ true → IsLawfulEpc (Partitioned kind f k c r last) → row_at l (12 - k) ≡ None → ⊥
has_row kind l f k c r last known sound h none = let a = at_row kind l f k c r last known sound h in let p = a.placed in cc

-- four components, where the last may be missing
abbrev shape : List ℕ → ℕ → ℕ → ℕ → ℕ → ℕ → ℕ → Bool → List ℕ
shape old f k c d r last b = old ++ join_with_byte 46 (padded 1 f ∷ padded k c ∷ padded d r ∷ cond b [] (plain last ∷ []))

module _ (old t1 t2 t3 t4 t5 t6 a b c d : List ℕ) (e1 : t1 ≡ old ++ a) (e2 : t2 ≡ t1 ++ 46 ∷ []) (e3 : t3 ≡ t2 ++ b) (e4 : t4 ≡ t3 ++ 46 ∷ []) (e5 : t5 ≡ t4 ++ c) where
  joined_three : t6 ≡ t5 ++ [] → t6 ≡ old ++ join_with_byte 46 (a ∷ b ∷ c ∷ [])
  joined_three e6 = rw (e6, e5, e4, e3, e2, e1) (simp (append_assoc, append-nil) refl)

  joined_four : t6 ≡ t5 ++ 46 ∷ d → t6 ≡ old ++ join_with_byte 46 (a ∷ b ∷ c ∷ d ∷ [])
  joined_four e6 = rw (e6, e5, e4, e3, e2, e1) (simp append_assoc refl)

shaped : (old t1 t2 t3 t4 t5 t6 : List ℕ) (f k c d r last : ℕ) (b : Bool)
    → t1 ≡ old ++ padded 1 f → t2 ≡ t1 ++ 46 ∷ [] → t3 ≡ t2 ++ padded k c → t4 ≡ t3 ++ 46 ∷ [] → t5 ≡ t4 ++ padded d r → t6 ≡ t5 ++ cond b [] (46 ∷ plain last)
    → t6 ≡ shape old f k c d r last b
shaped old t1 t2 t3 t4 t5 t6 f k c d r last true e1 e2 e3 e4 e5 e6 = joined_three old t1 t2 t3 t4 t5 t6 (padded 1 f) (padded k c) (padded d r) [] e1 e2 e3 e4 e5 e6
shaped old t1 t2 t3 t4 t5 t6 f k c d r last false e1 e2 e3 e4 e5 e6 = joined_four old t1 t2 t3 t4 t5 t6 (padded 1 f) (padded k c) (padded d r) (plain last) e1 e2 e3 e4 e5 e6

-- the components of a text, appended in turn
pub four_parts : (l : Layout) (row : Row) (old t1 t2 t3 t4 t5 t6 : List ℕ) (f k c r last : ℕ) (b : Bool) → is_sound l ≡ true → k ≤ 12 → row_at l (12 - k) ≡ Some row → b ≡ l.zero_tail
    → t1 ≡ old ++ padded 1 f → t2 ≡ t1 ++ 46 ∷ [] → t3 ≡ t2 ++ padded k c → t4 ≡ t3 ++ 46 ∷ [] → t5 ≡ t4 ++ padded row.reference_digits r → t6 ≡ t5 ++ cond b [] (46 ∷ plain last)
    → t6 ≡ old ++ join_with_byte 46 (partitioned_components (Some l) f k c r last)
four_parts l row old t1 t2 t3 t4 t5 t6 f k c r last b sound short placed tail e1 e2 e3 e4 e5 e6 =
    let digits : unwrap_or (reference_digits l.rows k) 0 ≡ row.reference_digits =
    ap (λ (o : Option ℕ). unwrap_or o 0) (reference_digits-at l k (12 - k) sound (omega arith))
    ∙ ap (λ (o : Option Row). unwrap_or (option_map (λ x. x.reference_digits) o) 0) placed in
    shaped old t1 t2 t3 t4 t5 t6 f k c row.reference_digits r last b e1 e2 e3 e4 e5 e6
    ∙ ap (λ (d : ℕ). shape old f k c d r last b) (sym digits)
    ∙ ap (λ (z : Bool). shape old f k c (unwrap_or (reference_digits l.rows k) 0) r last z) tail

-- the numbers of GID-96
pub general_below : (m o s : ℕ) → IsLawfulEpc (General m o s) → (m < 2 ^ 28) × (o < 2 ^ 24) × (s < 2 ^ 36)
general_below m o s h =
    let fit = h.fit in let filled = h.has in
    let all = rw filled at fit in
    (all.1.0.bits, all.1.1.0.bits, all.1.1.1.0.bits)

-- a number of GID-96 has at most this many digits
pub general_room : (m o s : ℕ) → IsLawfulEpc (General m o s) → (length (plain m) ≤ 9) × (length (plain o) ≤ 8) × (length (plain s) ≤ 11)
general_room m o s h =
    let fit = h.fit in let filled = h.has in
    let all = rw filled at fit in
    let a : m < 2 ^ 28 = all.1.0.bits in
    let b : o < 2 ^ 24 = all.1.1.0.bits in
    let c : s < 2 ^ 36 = all.1.1.1.0.bits in
    ((plain_is m (omega arith)).least 9 (omega arith) (omega arith), (plain_is o (omega arith)).least 8 (omega arith) (omega arith), (plain_is s (omega arith)).least 11 (omega arith) (omega arith))

pub three_parts : (old t1 t2 t3 t4 t5 : List ℕ) (m o s : ℕ) → t1 ≡ old ++ plain m → t2 ≡ t1 ++ 46 ∷ [] → t3 ≡ t2 ++ plain o → t4 ≡ t3 ++ 46 ∷ [] → t5 ≡ t4 ++ plain s
    → t5 ≡ old ++ join_with_byte 46 (plain m ∷ plain o ∷ plain s ∷ [])
three_parts old t1 t2 t3 t4 t5 m o s e1 e2 e3 e4 e5 = joined_three old t1 t2 t3 t4 t5 t5 (plain m) (plain o) (plain s) [] e1 e2 e3 e4 e5 (sym (append-nil t5))

-- GID-96 has no company prefix
pub no_prefix : (f k c r last : ℕ) → IsLawfulEpc (Partitioned Gid f k c r last) → ⊥
no_prefix f k c r last h = let s = h.has.scheme in cc
