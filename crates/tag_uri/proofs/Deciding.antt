-- Each text is the text of a word or of none, and each word has a text.
use Rattle.std.proofs.Common.{◌≡◌, ℕ, zero, suc, ◌-◌, ◌^◌, ◌<◌, ◌≤◌, Bool, true, false, cond, List, [], ◌∷◌, Option, Some, None, ◌⊎◌, inl, inr, refl, sym, ap, subst, ◌∙◌, arith}
use Rattle.std.specs.Prelude.{length, slice_get, unwrap_or}
use Rattle.std.specs.Str.{bytes_eq}
use Rattle.std.proofs.lemmas.Bool.{cases_lt}
use Rattle.std.proofs.lemmas.Slice.Eq.{bytes_eq-Decides}
use Rattle.tag_bits.specs.Digits.{word_digits}
use Rattle.tag_epc.specs.declared.kind.Kind.{Kind}
use Rattle.tag_epc.specs.declared.kind.Kind.TheVariants.{Gid}
use Rattle.tag_epc.specs.declared.scheme.Row.{Row}
use Rattle.tag_epc.specs.declared.epc.Parts.{Parts}
use Rattle.tag_epc.specs.declared.epc.Parts.TheVariants.{Partitioned, General}
use Rattle.tag_epc.specs.Layout.{Layout, layout_of, row_at}
use Rattle.tag_epc.specs.Private.Layout.{every_kind}
use Rattle.tag_epc.specs.Calls.Layout.{is_sound}
use Rattle.tag_epc.proofs.KindLemmas.{below as within, listed, place_of}
use Rattle.tag_epc.specs.LawfulWord.{IsLawfulEpc, HasWord, fields_digits}
use Rattle.tag_epc.proofs.OneReading.{has_word as lawful_word, one_fields}
use Rattle.tag_uri.specs.TagText.{tag_uri, raw_uri, IsTextOf}
use Rattle.tag_uri.proofs.GeneralLemmas.{lawful as lawful_general}
use Rattle.tag_uri.proofs.PrintLemmas.{at_row, general_below, has_row, same_some}
use Rattle.tag_uri.proofs.ReadLemmas.{FitsLast, bool_cases, lawful as lawful_partitioned}
use Rattle.tag_uri.proofs.RowDigits.{option_cases}
use Rattle.tag_uri.proofs.TextLaws.{sound_of}

-- the fact holds or it does not
abbrev pub Decided : Type 0 → Type 0
Decided P = P ⊎ (P → ⊥)

-- some number below n
abbrev pub Below : ℕ → (ℕ → Type 0) → Type 0
Below n P = (k : ℕ) × (k < n) × P k

pub below : (P : ℕ → Type 0) (n : ℕ) → ((k : ℕ) → k < n → Decided (P k)) → Decided (Below n P)
below P zero d = inr (λ h. omega (arith, h.1))
below P (suc n) d = elim (below P n (λ k lt. d k (omega arith))) [
  | inl h ↦ inl (h.0, omega (arith, h.1), h.2)
  | inr never ↦ elim (d n (omega arith)) [
    | inl p ↦ inl (n, omega arith, p)
    | inr other ↦ inr (λ h. elim (cases_lt h.0 n) [
      | inl lt ↦ never (h.0, lt, h.2)
      | inr ge ↦ other (let same : h.0 ≡ n = omega (arith, h.1, ge) in subst P same h.2)
    ])
  ]
]

-- the kind at a place of the list of all
abbrev kind_at : ℕ → Kind
kind_at i = unwrap_or (slice_get every_kind i) Gid

-- some scheme
kinds : (P : Kind → Type 0) → ((k : Kind) → Decided (P k)) → Decided ((k : Kind) × P k)
kinds P d = elim (below (λ i. P (kind_at i)) (length every_kind) (λ i lt. d (kind_at i))) [
  | inl h ↦ inl (kind_at h.0, h.2)
  | inr never ↦ inr (λ h. never (place_of h.0, within h.0, subst P (sym (ap (λ (o : Option Kind). unwrap_or o Gid) (listed h.0))) h.1))
]

-- below this a last part fits
abbrev last_bound : Layout → ℕ
last_bound l = cond l.zero_tail 1 (2 ^ l.last_bits)

fits_below : (l : Layout) (n : ℕ) → n < last_bound l → FitsLast l n
fits_below l n h = record {
  zero = λ e. let one : n < cond true 1 (2 ^ l.last_bits) = subst (λ (b : Bool). n < cond b 1 (2 ^ l.last_bits)) e h in omega (arith, one);
  bits = λ e. subst (λ (b : Bool). n < cond b 1 (2 ^ l.last_bits)) e h;
}

below_fits : (l : Layout) (n : ℕ) → FitsLast l n → n < last_bound l
below_fits l n h = elim (bool_cases l.zero_tail) [
  | inl e ↦ let z = h.zero e in subst (λ (b : Bool). n < cond b 1 (2 ^ l.last_bits)) (sym e) (omega (arith, z))
  | inr e ↦ subst (λ (b : Bool). n < cond b 1 (2 ^ l.last_bits)) (sym e) (h.bits e)
]

-- some lawful EPC of which a fact holds that is decided for each
module _ (P : Parts → Type 0) (decide : (epc : Parts) → IsLawfulEpc epc → Decided (P epc)) where
  abbrev Here : Parts → Type 0
  Here epc = IsLawfulEpc epc × P epc

  here : (epc : Parts) → IsLawfulEpc epc → Decided (Here epc)
  here epc h = elim (decide epc h) [ inl p ↦ inl (h, p) | inr never ↦ inr (λ x. never x.1) ]

  -- of a scheme, a filter value and this many digits of the company prefix
  abbrev Numbers : Kind → ℕ → ℕ → Type 0
  Numbers kind f k = (c : ℕ) × (r : ℕ) × (n : ℕ) × Here (Partitioned kind f k c r n)

  at_a_row : (kind : Kind) (l : Layout) (f k : ℕ) (row : Row) → layout_of kind ≡ Some l → is_sound l ≡ true → f < 8 → k ≤ 12 → row_at l (12 - k) ≡ Some row → Decided (Numbers kind f k)
  at_a_row kind l f k row known sound small short placed = elim (below
      (λ c. Below (10 ^ row.reference_digits) (λ r. Below (last_bound l) (λ n. Here (Partitioned kind f k c r n))))
      (10 ^ k)
      (λ c lc. below (λ r. Below (last_bound l) (λ n. Here (Partitioned kind f k c r n))) (10 ^ row.reference_digits)
      (λ r lr. below (λ n. Here (Partitioned kind f k c r n)) (last_bound l)
      (λ n ln. here (Partitioned kind f k c r n)
      (lawful_partitioned kind l f k row.reference_digits c r n known sound (record { row = row; short = short; placed = placed; digits = refl }) small lc lr (fits_below l n ln)))))) [
        | inl h ↦ inl (h.0, h.2.0, h.2.2.0, h.2.2.2)
        | inr never ↦ inr (λ h.
            let a = at_row kind l f k h.0 h.1 h.2 known sound h.3.0 in
            let same : a.row ≡ row = same_some a.row row (sym a.placed ∙ placed) in
            never (h.0, a.company_fits, (h.1, subst (λ (x : Row). h.1 < 10 ^ x.reference_digits) same a.reference_fits, (h.2, below_fits l h.2 a.last_fits, h.3))))
      ]

  of_digits : (kind : Kind) (l : Layout) (f k : ℕ) → layout_of kind ≡ Some l → is_sound l ≡ true → f < 8 → k ≤ 12 → Decided (Numbers kind f k)
  of_digits kind l f k known sound small short = elim (option_cases (row_at l (12 - k))) [
    | inl none ↦ inr (λ h. has_row kind l f k h.0 h.1 h.2 known sound h.3.0 none)
    | inr x ↦ at_a_row kind l f k x.0 known sound small short x.1
  ]

  -- of a scheme
  abbrev OfKind : Kind → Type 0
  OfKind kind = (f : ℕ) × (k : ℕ) × Numbers kind f k

  of_kind : (kind : Kind) → Decided (OfKind kind)
  of_kind kind = elim (option_cases (layout_of kind)) [
    | inl none ↦ inr (λ h. (let some = h.2.3.0.has.scheme in no_layout (layout_of kind) h.2.3.0.has.layout none some))
    | inr x ↦
        let sound = sound_of kind x.0 x.1 in
        elim (below (λ f. Below 13 (λ k. Numbers kind f k)) 8 (λ f lf. below (λ k. Numbers kind f k) 13 (λ k lk. of_digits kind x.0 f k x.1 sound lf (omega arith)))) [
          | inl h ↦ inl (h.0, h.2.0, h.2.2)
          | inr never ↦ inr (λ h.
              let a = at_row kind x.0 h.0 h.1 h.2.0 h.2.1 h.2.2 x.1 sound h.2.3.0 in
              let short = a.short in
              never (h.0, a.filter_fits, (h.1, omega (arith, short), h.2)))
        ]
  ]
    where
      no_layout : (o : Option Layout) (l : Layout) → o ≡ None → o ≡ Some l → ⊥
      no_layout o l none some = cc

  -- of GID-96
  abbrev OfGeneral : Type 0
  OfGeneral = (m : ℕ) × (o : ℕ) × (s : ℕ) × Here (General m o s)

  of_general : Decided OfGeneral
  of_general = elim (below (λ m. Below (2 ^ 24) (λ o. Below (2 ^ 36) (λ s. Here (General m o s)))) (2 ^ 28)
      (λ m lm. below (λ o. Below (2 ^ 36) (λ s. Here (General m o s))) (2 ^ 24)
      (λ o lo. below (λ s. Here (General m o s)) (2 ^ 36) (λ s ls. here (General m o s) (lawful_general m o s lm lo ls))))) [
        | inl h ↦ inl (h.0, h.2.0, h.2.2.0, h.2.2.2)
        | inr never ↦ inr (λ h. let b = general_below h.0 h.1 h.2 h.3.0 in never (h.0, b.0, (h.1, b.1, (h.2, b.2, h.3))))
      ]

  pub some_epc : Decided ((epc : Parts) × IsLawfulEpc epc × P epc)
  some_epc = elim (kinds OfKind of_kind) [
    | inl h ↦ inl (Partitioned h.0 h.1.0 h.1.1 h.1.2.0 h.1.2.1 h.1.2.2, h.1.2.3.0, h.1.2.3.1)
    | inr a ↦ elim of_general [
      | inl h ↦ inl (General h.0 h.1 h.2, h.3.0, h.3.1)
      | inr b ↦ inr (λ h. none a b h.0 (h.1, h.2))
    ]
  ]
    where
      none : ((k : Kind) × OfKind k → ⊥) → (OfGeneral → ⊥) → (epc : Parts) → Here epc → ⊥
      none a b (Partitioned kind f k c r n) h = a (kind, (f, k, (c, r, n, h)))
      none a b (General m o s) h = b (m, o, s, h)

-- ---- words

same_bits : (xs ys : List Bool) → Decided (xs ≡ ys)
same_bits [] [] = inl refl
same_bits [] (y ∷ ys) = inr (λ e. cc)
same_bits (x ∷ xs) [] = inr (λ e. cc)
same_bits (x ∷ xs) (y ∷ ys) = elim (same_bit x y) [
  | inl p ↦ elim (same_bits xs ys) [ inl q ↦ inl (rw (p, q) refl) | inr never ↦ inr (λ e. never cc) ]
  | inr never ↦ inr (λ e. never cc)
]
  where
    same_bit : (x y : Bool) → Decided (x ≡ y)
    same_bit true true = inl refl
    same_bit false false = inl refl
    same_bit true false = inr (λ e. cc)
    same_bit false true = inr (λ e. cc)

-- some EPC has the word, or none has
word_decided : (w : ℕ) → Decided ((epc : Parts) × IsLawfulEpc epc × HasWord epc w)
word_decided w = some_epc (λ epc. HasWord epc w) (λ epc h. elim (same_bits (word_digits w) (fields_digits h.fields)) [
  | inl e ↦ inl (record { lawful = h; spelled = e })
  | inr never ↦ inr (λ x. never (x.spelled ∙ ap fields_digits (one_fields epc x.lawful.fields h.fields x.lawful.has h.has)))
])

-- ---- texts

pub same_text : (s t : List ℕ) → Decided (s ≡ t)
same_text s t = elim (bool_cases (bytes_eq s t)) [
  | inl e ↦ inl ((bytes_eq-Decides s t).0 e)
  | inr e ↦ inr (λ same. let yes = (bytes_eq-Decides s t).1 same in cc)
]

-- the text is the raw URI of a word that no EPC has
abbrev IsRawOf : List ℕ → ℕ → Type 0
IsRawOf text w = (text ≡ raw_uri w) × ((epc : Parts) → HasWord epc w → ⊥)

-- the text is that of a word, or of none
pub text_decided : (text : List ℕ) → Decided ((w : ℕ) × (w < 2 ^ 96) × IsTextOf w text)
text_decided text = elim (some_epc (λ epc. text ≡ tag_uri epc) (λ epc h. same_text text (tag_uri epc))) [
  | inl x ↦ let w = lawful_word x.0 x.1 in inl (w.0, w.1, inl (x.0, w.2, x.2))
  | inr no_uri ↦ elim (below (IsRawOf text) (2 ^ 96) (λ w lt. raw_decided text w)) [
    | inl y ↦ inl (y.0, y.1, inr (y.2.1, y.2.0))
    | inr no_raw ↦ inr (λ h. none no_uri no_raw h.0 h.1 h.2)
  ]
]
  where
    raw_decided : (text : List ℕ) (w : ℕ) → Decided (IsRawOf text w)
    raw_decided text w = elim (same_text text (raw_uri w)) [
      | inr never ↦ inr (λ h. never h.0)
      | inl e ↦ elim (word_decided w) [
        | inl x ↦ inr (λ h. h.1 x.0 x.2)
        | inr never ↦ inl (e, λ epc h. never (epc, h.lawful, h))
      ]
    ]

    none : (((epc : Parts) × IsLawfulEpc epc × (text ≡ tag_uri epc)) → ⊥) → (Below (2 ^ 96) (IsRawOf text) → ⊥) → (w : ℕ) → w < 2 ^ 96 → IsTextOf w text → ⊥
    none no_uri no_raw w lt (inl a) = no_uri (a.0, a.1.lawful, a.2)
    none no_uri no_raw w lt (inr b) = no_raw (w, lt, (b.1, b.0))

-- each word has a text
pub has_text : (w : ℕ) → (text : List ℕ) × IsTextOf w text
has_text w = elim (word_decided w) [
  | inl x ↦ (tag_uri x.0, inl (x.0, x.2, refl))
  | inr never ↦ (raw_uri w, inr (λ epc h. never (epc, h.lawful, h), refl))
]
