-- Tag URIs of further schemes: which scheme's a text is, how long one is, and what is read of it.
use Rattle.std.proofs.Common.{◌≡◌, ℕ, ◌+◌, ◌-◌, ◌*◌, ◌/◌, ◌%◌, ◌^◌, ◌<◌, ◌≤◌, Bool, List, [], ◌∷◌, ◌++◌, length, drop, get_or, Option, Some, refl, sym, ap, subst, ◌∙◌, arith, inl, inr, length-append, length-drop}
use Rattle.std.specs.Prelude.{◌==◌, unwrap_or}
use Rattle.std.specs.List.{find, join_with_byte}
use Rattle.std.specs.Str.{IsUtf8, IsCharBoundary}
use Rattle.std.proofs.lemmas.List.{append_assoc, append_cancel_left, drop_at, get_or_at}
use Rattle.std.proofs.lemmas.Str.{IsCharBoundary-after_ascii}
use Rattle.tag_bits.specs.Digits.{digits, value, word_digits}
use Rattle.tag_bits.proofs.DigitLemmas.{length-digits, digits_from, value-below}
use Rattle.tag_epc.specs.declared.scheme.Row.{Row}
use Rattle.tag_epc.specs.Layout.{row_at}
use Rattle.tag_epc.specs.LawfulWord.{Field, fields_digits}
use Rattle.tag_uri.specs.declared.fault.UriFault.{UriFault}
use Rattle.tag_uri.specs.Decimal.{padded, plain}
use Rattle.tag_uri.specs.TagText.{tag_start, reference_digits}
use Rattle.tag_uri.proofs.DecimalLemmas.{length-padded, plain_short}
use Rattle.tag_schemes.specs.declared.numbers.Numbers.{Numbers}
use Rattle.tag_schemes.specs.declared.scheme.Scheme.{Scheme}
use Rattle.tag_schemes.specs.declared.scheme.Scheme.TheVariants.{Giai, Gsrnp, Sgcn, Cpi}
use Rattle.tag_schemes.specs.declared.fault.SchemeFault.TheVariants.{Tag}
use Rattle.tag_schemes.specs.Schemes.{layout_in}
use Rattle.tag_schemes.specs.LawfulWord.{IsLawful, HasWord}
use Rattle.tag_schemes.specs.Texts.{components_in, reference_text, serial_texts, text_in, uri_in, HasFaultIn}
use Rattle.tag_schemes.specs.AllTexts.{IsTextInAll, BeginsIn, BeginsAsSupplier, HasFaultInAll}
use Rattle.tag_schemes.proofs.RowFacts.{coupon_short, service_short, fills}
use Rattle.tag_schemes.proofs.WordFacts.{spelled_by}
use Rattle.tag_schemes.proofs.WriteFacts.{uri_in_is, coupon_digits, service_digits}
use Rattle.tag_schemes.proofs.SetFacts.{one_epc}
use Rattle.tag_schemes.proofs.SupplierTexts.{scheme_text_apart, supplier_uri_is}
use Rattle.tag_schemes.proofs.TextLaws.{not_begun, no_fault_in_all, uri_short}
use Rattle.tag_keys.proofs.FormLemmas.{same_some}
use Rattle.tag_scheme_keys.specs.KeyFaults.{with_filter_in}

-- ---- names

-- a number by two letters
abbrev pub code : ℕ → List ℕ → ℕ
code at t = get_or t at 0 * 1000 + get_or t (1 + at) 0

-- a scheme by the first two letters of its name
abbrev pub first_letters : Scheme → ℕ
first_letters Giai = 103105
first_letters Gsrnp = 103115
first_letters Sgcn = 115103
first_letters Cpi = 99112

-- the scheme to which a code gives this number
abbrev pub scheme_by : (Scheme → ℕ) → ℕ → Option Scheme
scheme_by codes n = find (λ s. codes s == n) (Giai ∷ Gsrnp ∷ Sgcn ∷ Cpi ∷ [])

-- schemes with different codes are told apart by these
pub one_by : (codes : Scheme → ℕ) → ((s : Scheme) → scheme_by codes (codes s) ≡ Some s) → (s t : Scheme) → codes s ≡ codes t → s ≡ t
one_by codes h s t e = same_some s t (sym (h s) ∙ ap (scheme_by codes) e ∙ h t)

by_letters : (s : Scheme) → scheme_by first_letters (first_letters s) ≡ Some s
by_letters Giai = refl
by_letters Gsrnp = refl
by_letters Sgcn = refl
by_letters Cpi = refl

pub one_by_letters : (s t : Scheme) → first_letters s ≡ first_letters t → s ≡ t
one_by_letters s t e = one_by first_letters by_letters s t e

text_letters : (s : Scheme) (x : List ℕ) → code 0 (text_in s x) ≡ first_letters s
text_letters Giai x = refl
text_letters Gsrnp x = refl
text_letters Sgcn x = refl
text_letters Cpi x = refl

-- what follows a colon
pub after_colon : (name x y : List ℕ) → name ++ 58 ∷ x ≡ name ++ 58 ∷ y → x ≡ y
after_colon name x y e = let tail : 58 ∷ x ≡ 58 ∷ y = append_cancel_left name (58 ∷ x) (58 ∷ y) e in cc

pub one_text : (s t : Scheme) (x y : List ℕ) → text_in s x ≡ text_in t y → (s ≡ t) × (x ≡ y)
one_text s t x y e =
    let same : s ≡ t = one_by_letters s t (sym (text_letters s x) ∙ ap (code 0) e ∙ text_letters t y) in
    (same, after_colon (layout_in s).name x y (e ∙ ap (λ (z : Scheme). text_in z y) (sym same)))

-- ---- what a tag URI is read as

module _ (text rest : List ℕ) (s : Scheme) (is : text ≡ tag_start ++ text_in s rest) where
  begins : BeginsIn text s rest
  begins = record { begins = is }

  no_supplier : (x : List ℕ) → BeginsAsSupplier text x → ⊥
  no_supplier x b = scheme_text_apart s rest x (append_cancel_left tag_start _ _ (sym is ∙ b.begins))

  pub read_word : (w : ℕ) (n : Numbers) → IsTextInAll w text → HasWord n w → (n.scheme ≡ s) × (rest ≡ join_with_byte 46 (components_in n))
  read_word w n (inl a) h =
      let same : n ≡ a.0 = one_epc n a.0 w h a.1 in
      let p = one_text s n.scheme rest _ (append_cancel_left tag_start _ _ (sym is ∙ a.2 ∙ ap uri_in (sym same) ∙ uri_in_is n)) in
      (sym p.0, p.1)
  read_word w n (inr (inl a)) h = absurd (no_supplier _ (record { begins = a.2 ∙ supplier_uri_is a.0 }))
  read_word w n (inr (inr a)) h = absurd (not_begun w text s rest a.1 begins)

  pub some_word : (w : ℕ) → IsTextInAll w text → ((n : Numbers) → HasWord n w → ⊥) → ⊥
  some_word w (inl a) none = none a.0 a.1
  some_word w (inr (inl a)) none = no_supplier _ (record { begins = a.2 ∙ supplier_uri_is a.0 })
  some_word w (inr (inr a)) none = not_begun w text s rest a.1 begins

  pub tag_fault : (f : UriFault) → HasFaultInAll text (Tag f) → HasFaultIn s rest f
  tag_fault f (inl h) =
      let p = one_text s h.scheme rest h.rest (append_cancel_left tag_start _ _ (sym is ∙ h.begins.begins)) in
      subst (λ (z : Scheme). HasFaultIn z rest f) (sym p.0) (subst (λ (x : List ℕ). HasFaultIn h.scheme x f) (sym p.1) h.refused)
  tag_fault f (inr (inl h)) = absurd (no_supplier h.rest h.begins)
  tag_fault f (inr (inr h)) = absurd (h.0.no_scheme s rest begins)

-- ---- lengths

pub serial_long : (s : Scheme) (n : ℕ) → n < 2 ^ (layout_in s).last_bits → length (join_with_byte 46 ([] ∷ serial_texts s n)) ≤ 14
serial_long Giai n below = omega arith
serial_long Gsrnp n below = omega arith
serial_long Cpi n below = let few = plain_short 10 n (omega arith) (omega arith) (omega arith) in omega arith
serial_long Sgcn n below =
    let few = plain_short 13 n (omega arith) (omega arith) (omega arith) in
    omega (arith, length-drop 1 (plain n), few)

pub reference_long : (s : Scheme) (k t : ℕ) (r : Row) → k ≤ 12 → row_at (layout_in s) (12 - k) ≡ Some r → t < 2 ^ 64 → length (reference_text s k t) ≤ 20
reference_long Giai k t r few placed small = plain_short 20 t (omega arith) (omega arith) small
reference_long Cpi k t r few placed small = plain_short 20 t (omega arith) (omega arith) small
reference_long Sgcn k t r few placed small = omega (arith, length-padded (unwrap_or (reference_digits (layout_in Sgcn).rows k) 0) t, coupon_digits k r few placed, (coupon_short (12 - k) r placed).digits)
reference_long Gsrnp k t r few placed small = omega (arith, length-padded (unwrap_or (reference_digits (layout_in Gsrnp).rows k) 0) t, service_digits k r few placed, (service_short (12 - k) r placed).digits)

pub reference_and_serial : (r : List ℕ) (serials : List (List ℕ)) → length (join_with_byte 46 (r ∷ serials)) ≡ length r + length (join_with_byte 46 ([] ∷ serials))
reference_and_serial r [] = omega arith
reference_and_serial r (t ∷ ts) = length-append r (46 ∷ join_with_byte 46 (t ∷ ts))

-- ---- no rule refuses the components of an EPC

lawful_word : (m : Numbers) → IsLawful m → (w : ℕ) × (w < 2 ^ 96) × HasWord m w
unfolding word_digits
lawful_word m a =
    let ds : List Bool = fields_digits a.fields in
    let h : List Bool = digits 8 (layout_in m.scheme).header in
    let long : length ds ≡ length (spelled_by (layout_in m.scheme) a.has.row m.filter a.has.partition m.company m.reference m.last) = ap (λ (fs : List Field). length (fields_digits fs)) a.has.filled in
    let whole : length ds ≡ 96 = long ∙ simp (length-append, length-digits) (omega (arith, (fills m.scheme a.has.partition a.has.row a.has.placed).fills)) in
    (value ds, subst (λ (k : ℕ). value ds < 2 ^ k) whole (value-below ds), record { lawful = a; spelled = digits_from 96 (value ds) ds whole refl })

pub no_fault_with : (epc : Numbers) (f : UriFault) → IsLawful epc → HasFaultIn epc.scheme (join_with_byte 46 (components_in epc)) f → ⊥
no_fault_with epc f h w =
    let has = lawful_word epc h in
    no_fault_in_all has.0 (uri_in epc) (Tag f) has.1 (inl (epc, has.2, refl)) (inl (record { scheme = epc.scheme; rest = join_with_byte 46 (components_in epc); begins = record { begins = uri_in_is epc }; few = uri_short epc h; refused = w }))

-- ---- the place after a dot

module _ (text front rest : List ℕ) (e : text ≡ front ++ 46 ∷ rest) where
  dot : get_or text (length front) 0 ≡ 46
  dot = ap (λ (t : List ℕ). get_or t (length front) 0) e ∙ get_or_at front 46 rest 0 (length front) refl

  whole : length text ≡ length front + 1 + length rest
  whole = let l : length text ≡ length (front ++ 46 ∷ rest) = ap length e in omega (arith, l, length-append front (46 ∷ rest))

  pub after_dot : IsUtf8 text → IsCharBoundary text (length front + 1)
  after_dot u = IsCharBoundary-after_ascii text (length front) u (omega (arith, whole)) (omega (arith, dot))

  pub dot_behind : drop (length front + 1) text ≡ rest
  dot_behind =
      let l : length (front ++ 46 ∷ []) ≡ length front + 1 = length-append front (46 ∷ []) in
      ap (drop (length front + 1)) (e ∙ sym (append_assoc front (46 ∷ []) rest)) ∙ drop_at (front ++ 46 ∷ []) rest (length front + 1) l

-- ---- texts that are put together

pub digit_of : (f : ℕ) → f < 8 → padded 1 f ≡ (48 + f) ∷ []
unfolding padded
digit_of f h = let d : 48 + f / 10 ^ 0 % 10 ≡ 48 + f = omega arith in rw d refl

pub filter_before : (f : ℕ) (t0 t1 t2 t3 rest : List ℕ) (d : ℕ) → f < 8 → t0 ≡ [] → d ≡ 48 + f → t1 ≡ t0 ++ d ∷ [] → t2 ≡ t1 ++ 46 ∷ [] → t3 ≡ t2 ++ rest → t3 ≡ with_filter_in f rest
filter_before f t0 t1 t2 t3 rest d low e0 is e1 e2 e3 = let one = digit_of f low in rw (e3, e2, e1, e0, is, one) refl

pub joined_three : (f : ℕ) (t0 t1 t2 company reference : List ℕ) → t0 ≡ with_filter_in f company → t1 ≡ t0 ++ 46 ∷ [] → t2 ≡ t1 ++ reference → t2 ≡ join_with_byte 46 (padded 1 f ∷ company ∷ reference ∷ [])
joined_three f t0 t1 t2 company reference e0 e1 e2 = rw (e2, e1, e0) (simp append_assoc refl)

pub joined_four : (f : ℕ) (t0 t1 t2 company reference serial : List ℕ) → t0 ≡ join_with_byte 46 (padded 1 f ∷ company ∷ reference ∷ []) → t1 ≡ t0 ++ 46 ∷ [] → t2 ≡ t1 ++ serial → t2 ≡ join_with_byte 46 (padded 1 f ∷ company ∷ reference ∷ serial ∷ [])
joined_four f t0 t1 t2 company reference serial e0 e1 e2 = rw (e2, e1, e0) (simp append_assoc refl)
