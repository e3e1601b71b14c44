-- In the set of all schemes each word has one text, and each text is one word's.
use Rattle.std.proofs.Common.{◌≡◌, ℕ, ◌+◌, ◌-◌, ◌/◌, ◌%◌, ◌^◌, ◌<◌, ◌≤◌, Bool, true, false, List, [], ◌∷◌, ◌++◌, length, drop, get_or, Some, None, refl, sym, ap, subst, ◌∙◌, arith, length-append, length-drop, inl, inr}
use Rattle.std.specs.Prelude.{◌==◌, ◌||◌, ◌⊎◌, not, nat_lt, nat_le, option_map, unwrap_or, codes}
use Rattle.std.specs.Str.{all_ascii_digits}
use Rattle.std.proofs.lemmas.Str.Parse.{tells_all_ascii_digits}
use Rattle.std.specs.List.{join_with_byte}
use Rattle.std.proofs.lemmas.Bool.{eq-eqb, lt-leb, ne_eqb, le-ltb}
use Rattle.std.proofs.Math.Nat.{pow-le-pow_right}
use Rattle.std.proofs.lemmas.Fmt.{decimal_injective}
use Rattle.std.proofs.lemmas.List.{append_cancel_left}
use Rattle.tag_epc.specs.declared.kind.Kind.{Kind}
use Rattle.tag_epc.specs.declared.kind.Kind.TheVariants.{Sgtin, Sscc, Sgln, Grai, Gdti, Gsrn, Gid}
use Rattle.tag_epc.specs.declared.epc.Parts.{Parts}
use Rattle.tag_epc.specs.declared.epc.Parts.TheVariants.{Partitioned}
use Rattle.tag_epc.specs.Layout.{row_at, gdti_96, gsrn_96}
use Rattle.tag_epc.specs.LawfulWord as older
use Rattle.tag_epc.specs.LawfulWord.{IsLawfulEpc, kind_of_parts}
use Rattle.tag_uri.specs.declared.fault.UriFault.{UriFault}
use Rattle.tag_uri.specs.declared.fault.UriFault.TheVariants as fault
use Rattle.tag_uri.specs.Calls.Decimal.{AreDigits}
use Rattle.tag_uri.specs.Decimal.{decimal_value, padded, plain}
use Rattle.tag_uri.specs.TagText.{tag_uri, tag_start, raw_start, scheme_text, components, reference_digits, is_strange, is_zero_led, is_no_filter, first_rule, IsTextOf, HasTagFault, HasTextFault}
use Rattle.tag_uri.proofs.DecimalLemmas.{digits-padded, length-padded, value-padded, mod_small, plain_is, plain_short}
use Rattle.tag_uri.proofs.LawfulTexts.{digits_of_plain, fine}
use Rattle.tag_uri.proofs.ReadLemmas.{lawful}
use Rattle.tag_epc.specs.declared.scheme.Row.{Row}
use Rattle.tag_uri.proofs.TextLaws.{AllOfDigits, components_again, uri_is, raw_is, no_fault, words_apart, text_or_fault, texts_same}
use Rattle.tag_schemes.specs.declared.numbers.Numbers.{Numbers}
use Rattle.tag_schemes.specs.declared.supplier.Supplier.{Supplier}
use Rattle.tag_schemes.specs.declared.scheme.Scheme.{Scheme}
use Rattle.tag_schemes.specs.declared.scheme.Scheme.TheVariants.{Giai, Gsrnp, Sgcn, Cpi}
use Rattle.tag_schemes.specs.declared.fault.SchemeFault.{SchemeFault}
use Rattle.tag_schemes.specs.declared.fault.SchemeFault.TheVariants.{Long, Code, Tag}
use Rattle.tag_schemes.specs.Schemes.{layout_in}
use Rattle.tag_schemes.specs.LawfulWord.{IsLawful, HasSerial, HasWord}
use Rattle.tag_schemes.specs.Private.LastSegments.{IsLastIn}
use Rattle.tag_schemes.specs.Texts.{components_in, reference_text, serial_texts, one_before, HasCouponFault, text_in, uri_in, asset_rules, asset_bits, part_digits, part_rules, is_no_number, HasFaultIn}
use Rattle.tag_schemes.specs.Suppliers.{supplier_components, supplier_uri, IsSupplier, HasSupplierWord, IsFurtherWord}
use Rattle.tag_schemes.specs.SupplierRules.{HasSupplierTextFault}
use Rattle.tag_schemes.specs.AllTexts.{IsTextInAll, BeginsIn, BeginsAsSupplier, BeginsInNone, IsRawOfFurther, HasSchemeFault, HasFaultAsSupplier, HasFaultInAll}
use Rattle.tag_schemes.proofs.WordFacts.{told}
use Rattle.tag_schemes.proofs.SupplierFacts.{header_apart, older_apart, one_supplier, one_supplier_word, supplier_begins}
use Rattle.tag_schemes.proofs.SupplierTexts.{kind_text_apart, one_supplier_uri, scheme_text_apart, supplier_no_fault, supplier_short, supplier_uri_is}
use Rattle.tag_schemes.proofs.RowFacts.{coupon_short, service_short}
use Rattle.tag_schemes.proofs.WriteFacts.{uri_in_is, coupon_digits, most_digits, service_digits, name_short}
use Rattle.tag_schemes.proofs.SetFacts.{sets_apart, one_word, one_epc, Facts, facts}

-- ---- names

unequal : (m n : ℕ) → m ≡ n → (m == n) ≡ false → ⊥
unequal m n e h = let a = eq-eqb m n e in cc

-- the texts of two schemes differ in their first or second letter
text_apart : (s t : Scheme) (x y : List ℕ) → text_in s x ≡ text_in t y → (s ≡ t) × (x ≡ y)
text_apart Giai Giai x y e = (refl, cc)
text_apart Giai Gsrnp x y e = absurd (unequal 105 115 (ap (λ (t : List ℕ). get_or t 1 0) e) refl)
text_apart Giai Sgcn x y e = absurd (unequal 103 115 (ap (λ (t : List ℕ). get_or t 0 0) e) refl)
text_apart Gsrnp Giai x y e = absurd (unequal 115 105 (ap (λ (t : List ℕ). get_or t 1 0) e) refl)
text_apart Gsrnp Gsrnp x y e = (refl, cc)
text_apart Gsrnp Sgcn x y e = absurd (unequal 103 115 (ap (λ (t : List ℕ). get_or t 0 0) e) refl)
text_apart Sgcn Giai x y e = absurd (unequal 115 103 (ap (λ (t : List ℕ). get_or t 0 0) e) refl)
text_apart Sgcn Gsrnp x y e = absurd (unequal 115 103 (ap (λ (t : List ℕ). get_or t 0 0) e) refl)
text_apart Sgcn Sgcn x y e = (refl, cc)
text_apart Giai Cpi x y e = absurd (unequal 103 99 (ap (λ (t : List ℕ). get_or t 0 0) e) refl)
text_apart Gsrnp Cpi x y e = absurd (unequal 103 99 (ap (λ (t : List ℕ). get_or t 0 0) e) refl)
text_apart Sgcn Cpi x y e = absurd (unequal 115 99 (ap (λ (t : List ℕ). get_or t 0 0) e) refl)
text_apart Cpi Giai x y e = absurd (unequal 99 103 (ap (λ (t : List ℕ). get_or t 0 0) e) refl)
text_apart Cpi Gsrnp x y e = absurd (unequal 99 103 (ap (λ (t : List ℕ). get_or t 0 0) e) refl)
text_apart Cpi Sgcn x y e = absurd (unequal 99 115 (ap (λ (t : List ℕ). get_or t 0 0) e) refl)
text_apart Cpi Cpi x y e = (refl, cc)

-- they differ from those of the older set
names_apart : (k : Kind) (s : Scheme) (x y : List ℕ) → scheme_text k x ≡ text_in s y → ⊥
names_apart Sgtin Giai x y e = unequal 115 103 (ap (λ (t : List ℕ). get_or t 0 0) e) refl
names_apart Sgtin Gsrnp x y e = unequal 115 103 (ap (λ (t : List ℕ). get_or t 0 0) e) refl
names_apart Sgtin Cpi x y e = unequal 115 99 (ap (λ (t : List ℕ). get_or t 0 0) e) refl
names_apart Sgtin Sgcn x y e = unequal 116 99 (ap (λ (t : List ℕ). get_or t 2 0) e) refl
names_apart Sscc Giai x y e = unequal 115 103 (ap (λ (t : List ℕ). get_or t 0 0) e) refl
names_apart Sscc Gsrnp x y e = unequal 115 103 (ap (λ (t : List ℕ). get_or t 0 0) e) refl
names_apart Sscc Cpi x y e = unequal 115 99 (ap (λ (t : List ℕ). get_or t 0 0) e) refl
names_apart Sscc Sgcn x y e = unequal 115 103 (ap (λ (t : List ℕ). get_or t 1 0) e) refl
names_apart Sgln Giai x y e = unequal 115 103 (ap (λ (t : List ℕ). get_or t 0 0) e) refl
names_apart Sgln Gsrnp x y e = unequal 115 103 (ap (λ (t : List ℕ). get_or t 0 0) e) refl
names_apart Sgln Cpi x y e = unequal 115 99 (ap (λ (t : List ℕ). get_or t 0 0) e) refl
names_apart Sgln Sgcn x y e = unequal 108 99 (ap (λ (t : List ℕ). get_or t 2 0) e) refl
names_apart Grai Giai x y e = unequal 114 105 (ap (λ (t : List ℕ). get_or t 1 0) e) refl
names_apart Grai Gsrnp x y e = unequal 114 115 (ap (λ (t : List ℕ). get_or t 1 0) e) refl
names_apart Grai Cpi x y e = unequal 103 99 (ap (λ (t : List ℕ). get_or t 0 0) e) refl
names_apart Grai Sgcn x y e = unequal 103 115 (ap (λ (t : List ℕ). get_or t 0 0) e) refl
names_apart Gdti Giai x y e = unequal 100 105 (ap (λ (t : List ℕ). get_or t 1 0) e) refl
names_apart Gdti Gsrnp x y e = unequal 100 115 (ap (λ (t : List ℕ). get_or t 1 0) e) refl
names_apart Gdti Cpi x y e = unequal 103 99 (ap (λ (t : List ℕ). get_or t 0 0) e) refl
names_apart Gdti Sgcn x y e = unequal 103 115 (ap (λ (t : List ℕ). get_or t 0 0) e) refl
names_apart Gsrn Giai x y e = unequal 115 105 (ap (λ (t : List ℕ). get_or t 1 0) e) refl
names_apart Gsrn Gsrnp x y e = unequal 45 112 (ap (λ (t : List ℕ). get_or t 4 0) e) refl
names_apart Gsrn Cpi x y e = unequal 103 99 (ap (λ (t : List ℕ). get_or t 0 0) e) refl
names_apart Gsrn Sgcn x y e = unequal 103 115 (ap (λ (t : List ℕ). get_or t 0 0) e) refl
names_apart Gid Giai x y e = unequal 100 97 (ap (λ (t : List ℕ). get_or t 2 0) e) refl
names_apart Gid Gsrnp x y e = unequal 105 115 (ap (λ (t : List ℕ). get_or t 1 0) e) refl
names_apart Gid Cpi x y e = unequal 103 99 (ap (λ (t : List ℕ). get_or t 0 0) e) refl
names_apart Gid Sgcn x y e = unequal 103 115 (ap (λ (t : List ℕ). get_or t 0 0) e) refl

-- tag URIs are no raw URIs
starts_apart : (x y : List ℕ) → tag_start ++ x ≡ raw_start ++ y → ⊥
starts_apart x y e = unequal 116 114 (ap (λ (t : List ℕ). get_or t 8 0) e) refl

-- the text of a word in the older set begins as none of the further schemes
pub not_begun : (w : ℕ) (text : List ℕ) (s : Scheme) (rest : List ℕ) → IsTextOf w text → BeginsIn text s rest → ⊥
not_begun w text s rest (inl a) b = names_apart (kind_of_parts a.0) s _ rest (append_cancel_left tag_start _ _ (sym (uri_is a.0) ∙ sym a.2 ∙ b.begins))
not_begun w text s rest (inr a) b = starts_apart _ _ (sym b.begins ∙ a.1 ∙ raw_is w)

pub not_as_supplier : (w : ℕ) (text rest : List ℕ) → IsTextOf w text → BeginsAsSupplier text rest → ⊥
not_as_supplier w text rest (inl a) b = kind_text_apart (kind_of_parts a.0) _ rest (append_cancel_left tag_start _ _ (sym (uri_is a.0) ∙ sym a.2 ∙ b.begins))
not_as_supplier w text rest (inr a) b = starts_apart _ _ (sym b.begins ∙ a.1 ∙ raw_is w)

-- a text begins as that of a supplier or of another further scheme
one_beginning : (text : List ℕ) (s : Scheme) (x y : List ℕ) → BeginsIn text s x → BeginsAsSupplier text y → ⊥
one_beginning text s x y a b = scheme_text_apart s x y (append_cancel_left tag_start _ _ (sym a.begins ∙ b.begins))

-- ---- components

-- a reference that its text has room for
abbrev FitsText : Scheme → ℕ → ℕ → Type 0
FitsText Giai k t = t < 2 ^ 64
FitsText Gsrnp k t = t < 10 ^ unwrap_or (reference_digits (layout_in Gsrnp).rows k) 0
FitsText Cpi k t = t < 2 ^ 64
FitsText Sgcn k t = t < 10 ^ unwrap_or (reference_digits (layout_in Sgcn).rows k) 0

fits_text : (s : Scheme) (k t : ℕ) (r : Row) → k ≤ 12 → row_at (layout_in s) (12 - k) ≡ Some r → t < 10 ^ r.reference_digits → t < 2 ^ 64 → FitsText s k t
fits_text Giai k t r few placed below small = small
fits_text Gsrnp k t r few placed below small = rw (service_digits k r few placed) below
fits_text Cpi k t r few placed below small = small
fits_text Sgcn k t r few placed below small = rw (coupon_digits k r few placed) below

fits : (m : Numbers) → Facts m → FitsText m.scheme m.company_digits m.reference
fits m a = fits_text m.scheme m.company_digits m.reference a.row a.most a.placed a.reference a.small

padded_same : (k m n : ℕ) → m < 10 ^ k → n < 10 ^ k → padded k m ≡ padded k n → m ≡ n
padded_same k m n p q e = sym (mod_small m (10 ^ k) p) ∙ sym (value-padded k m) ∙ ap decimal_value e ∙ value-padded k n ∙ mod_small n (10 ^ k) q

same_reference : (s : Scheme) (k t u : ℕ) → FitsText s k t → FitsText s k u → reference_text s k t ≡ reference_text s k u → t ≡ u
same_reference Giai k t u p q e = decimal_injective t u p q e
same_reference Gsrnp k t u p q e = padded_same _ t u p q e
same_reference Cpi k t u p q e = decimal_injective t u p q e
same_reference Sgcn k t u p q e = padded_same _ t u p q e

reference_is_digits : (s : Scheme) (k t : ℕ) → t < 2 ^ 64 → AreDigits (reference_text s k t)
reference_is_digits Giai k t small = digits_of_plain t small
reference_is_digits Gsrnp k t small = digits-padded _ t
reference_is_digits Cpi k t small = digits_of_plain t small
reference_is_digits Sgcn k t small = digits-padded _ t

-- ---- serial numbers

pub without_first : (cs : List ℕ) → AreDigits cs → AreDigits (drop 1 cs)
without_first [] h = h
without_first (c ∷ cs) h = h.1

serial_is_digits : (s : Scheme) (n : ℕ) → n < 2 ^ 64 → AllOfDigits (serial_texts s n)
serial_is_digits Giai n small = tt
serial_is_digits Gsrnp n small = tt
serial_is_digits Cpi n small = (digits_of_plain n small, tt)
serial_is_digits Sgcn n small = (without_first (plain n) (digits_of_plain n small), tt)

pub last_small : (m : Numbers) → Facts m → m.last < 2 ^ 64
last_small m a = omega (arith, a.last_bits, pow-le-pow_right {n = 2} (omega arith) {i = (layout_in m.scheme).last_bits} {j = 64} (omega (arith, a.fills.last)))

-- the 1 that was left out, before a serial number again
one_again : (n : ℕ) → HasSerial Sgcn n → one_before (drop 1 (plain n)) ≡ plain n
one_again n (serial, some, is) =
    let tail : drop 1 (plain n) ≡ serial = ap (λ (cs : List ℕ). drop 1 cs) is in
    let test : (length serial == 0) ≡ false = ne_eqb (length serial) 0 (λ e. omega (arith, e, some)) in
    ap one_before tail ∙ rw test (sym is)

same_last : (s : Scheme) (m n : ℕ) → m < 2 ^ 64 → n < 2 ^ 64 → IsLastIn s m → IsLastIn s n → serial_texts s m ≡ serial_texts s n → m ≡ n
same_last Giai m n p q a b e = a ∙ sym b
same_last Gsrnp m n p q a b e = a ∙ sym b
same_last Cpi m n p q a b e = let texts : plain m ≡ plain n = cc in decimal_injective m n p q texts
same_last Sgcn m n p q a b e = let texts : drop 1 (plain m) ≡ drop 1 (plain n) = cc in decimal_injective m n p q (sym (one_again m a) ∙ ap one_before texts ∙ one_again n b)

again : (m : Numbers) → Facts m → components (join_with_byte 46 (components_in m)) ≡ components_in m
again m a =
    components_again (padded 1 m.filter) (padded m.company_digits m.company ∷ reference_text m.scheme m.company_digits m.reference ∷ serial_texts m.scheme m.last)
    (digits-padded 1 m.filter, (digits-padded m.company_digits m.company, (reference_is_digits m.scheme m.company_digits m.reference a.small, serial_is_digits m.scheme m.last (last_small m a))))

abbrev made : Scheme → ℕ → ℕ → ℕ → ℕ → ℕ → Numbers
made s f k c t n = record { scheme = s; filter = f; company_digits = k; company = c; reference = t; last = n }

same_made : (s : Scheme) (f k c t n : ℕ) (z : Scheme) (g m u v o : ℕ) → s ≡ z → f ≡ g → k ≡ m → c ≡ u → t ≡ v → n ≡ o → made s f k c t n ≡ made z g m u v o
same_made s f k c t n z g m u v o a b p q r h = rw (a, b, p, q, r, h) refl

-- an EPC is known by its tag URI
pub one_uri_in : (d e : Numbers) → IsLawful d → IsLawful e → uri_in d ≡ uri_in e → d ≡ e
one_uri_in d e h i same =
    let a = facts d h in let b = facts e i in
    let p = text_apart d.scheme e.scheme _ _ (append_cancel_left tag_start _ _ (sym (uri_in_is d) ∙ same ∙ uri_in_is e)) in
    let cs : components_in d ≡ components_in e = sym (again d a) ∙ ap components p.1 ∙ again e b in
    let pf : padded 1 d.filter ≡ padded 1 e.filter = cc in
    let pc : padded d.company_digits d.company ≡ padded e.company_digits e.company = cc in
    let pr : reference_text d.scheme d.company_digits d.reference ≡ reference_text e.scheme e.company_digits e.reference = cc in
    let count : d.company_digits ≡ e.company_digits = sym (length-padded d.company_digits d.company) ∙ ap length pc ∙ length-padded e.company_digits e.company in
    let filter : d.filter ≡ e.filter = padded_same 1 d.filter e.filter (omega (arith, a.filter)) (omega (arith, b.filter)) pf in
    let below : e.company < 10 ^ d.company_digits = subst (λ (k : ℕ). e.company < 10 ^ k) (sym count) b.company in
    let company : d.company ≡ e.company = padded_same d.company_digits d.company e.company a.company below (pc ∙ ap (λ (k : ℕ). padded k e.company) (sym count)) in
    let other : FitsText d.scheme d.company_digits e.reference = subst (λ (k : ℕ). FitsText d.scheme k e.reference) (sym count) (subst (λ (s : Scheme). FitsText s e.company_digits e.reference) (sym p.0) (fits e b)) in
    let reference : d.reference ≡ e.reference = same_reference d.scheme d.company_digits d.reference e.reference (fits d a) other
    (pr ∙ ap (λ (s : Scheme). reference_text s e.company_digits e.reference) (sym p.0) ∙ ap (λ (k : ℕ). reference_text d.scheme k e.reference) (sym count)) in
    let ps : serial_texts d.scheme d.last ≡ serial_texts e.scheme e.last = cc in
    let there : IsLastIn d.scheme e.last = subst (λ (s : Scheme). IsLastIn s e.last) (sym p.0) b.last in
    let last : d.last ≡ e.last = same_last d.scheme d.last e.last (last_small d a) (last_small e b) a.last there (ps ∙ ap (λ (s : Scheme). serial_texts s e.last) (sym p.0)) in
    same_made d.scheme d.filter d.company_digits d.company d.reference d.last e.scheme e.filter e.company_digits e.company e.reference e.last p.0 filter count company reference last

-- ---- lengths

serial_short : (r : List ℕ) (s : Scheme) (n : ℕ) → n < 2 ^ (layout_in s).last_bits → length (join_with_byte 46 (r ∷ serial_texts s n)) ≤ length r + 20
serial_short r Giai n below = omega arith
serial_short r Gsrnp n below = omega arith
serial_short r Cpi n below =
    let few = plain_short 10 n (omega arith) (omega arith) (omega arith) in
    omega (arith, length-append r (46 ∷ plain n), few)
serial_short r Sgcn n below =
    let few = plain_short 13 n (omega arith) (omega arith) (omega arith) in
    let drop_few : length (drop 1 (plain n)) ≤ 13 = omega (arith, length-drop 1 (plain n), few) in
    omega (arith, length-append r (46 ∷ drop 1 (plain n)), drop_few)

reference_short : (s : Scheme) (k t : ℕ) (r : Row) → k ≤ 12 → row_at (layout_in s) (12 - k) ≡ Some r → t < 2 ^ 64 → length (reference_text s k t) ≤ 20
reference_short Giai k t r few placed small = plain_short 20 t (omega arith) (omega arith) small
reference_short Cpi k t r few placed small = plain_short 20 t (omega arith) (omega arith) small
reference_short Sgcn k t r few placed small = omega (arith, length-padded (unwrap_or (reference_digits (layout_in Sgcn).rows k) 0) t, coupon_digits k r few placed, (coupon_short (12 - k) r placed).digits)
reference_short Gsrnp k t r few placed small = omega (arith, length-padded (unwrap_or (reference_digits (layout_in Gsrnp).rows k) 0) t, service_digits k r few placed, (service_short (12 - k) r placed).digits)

pub uri_short : (m : Numbers) → IsLawful m → length (uri_in m) ≤ 96
uri_short m h =
    let a = facts m h in
    let reference : List ℕ = join_with_byte 46 (reference_text m.scheme m.company_digits m.reference ∷ serial_texts m.scheme m.last) in
    let behind : List ℕ = padded m.company_digits m.company ++ 46 ∷ reference in
    let numbers : List ℕ = padded 1 m.filter ++ 46 ∷ behind in
    let e0 : length (uri_in m) ≡ length (tag_start ++ text_in m.scheme numbers) = ap length (uri_in_is m) in
    let e1 = length-append (layout_in m.scheme).name (58 ∷ numbers) in
    let e2 = length-append (padded 1 m.filter) (46 ∷ behind) in
    let e3 = length-append (padded m.company_digits m.company) (46 ∷ reference) in
    omega (arith, e0, e1, e2, e3, length-padded 1 m.filter, length-padded m.company_digits m.company, a.most, name_short m.scheme, reference_short m.scheme m.company_digits m.reference a.row a.most a.placed a.small, serial_short (reference_text m.scheme m.company_digits m.reference) m.scheme m.last a.last_bits)

-- ---- no rule refuses them

digits_pass : (cs : List ℕ) → AreDigits cs → all_ascii_digits cs ≡ true
digits_pass [] h = tells_all_ascii_digits.empty
digits_pass (c ∷ cs) h = tells_all_ascii_digits.more c cs h.0 (digits_pass cs h.1)

a_number : (cs : List ℕ) → AreDigits cs → 0 < length cs → is_no_number cs ≡ false
a_number cs h some = let a : is_strange cs ≡ false = ap not (digits_pass cs h) in let b : (length cs == 0) ≡ false = ne_eqb (length cs) 0 (λ e. omega (arith, e)) in rw (a, b) refl

digit_low : (f : ℕ) → f < 8 → is_no_filter (padded 1 f) ≡ false
unfolding padded
digit_low f h = le-ltb 55 (48 + f / 10 ^ 0 % 10) (omega arith)

asset_fine : (f k c t : ℕ) (r : Row) → f < 8 → 6 ≤ k → k ≤ 12 → row_at (layout_in Giai) (12 - k) ≡ Some r → t < 2 ^ r.reference_bits → t < 2 ^ 64 → first_rule (asset_rules (padded 1 f ∷ padded k c ∷ plain t ∷ [])) ≡ None
asset_fine f k c t r low least most placed bits small =
    let count : length (padded k c) ≡ k = length-padded k c in
    let w : asset_bits (length (padded k c)) ≡ r.reference_bits = ap (λ (n : ℕ). asset_bits n) count ∙ ap (λ o. unwrap_or (option_map (λ x. x.reference_bits) o) 0) placed in
    let p = fine t r.reference_bits bits small in
    let a = a_number (padded 1 f) (digits-padded 1 f) (omega (arith, length-padded 1 f)) in
    let b = a_number (padded k c) (digits-padded k c) (omega (arith, count, least)) in
    let d : is_no_number (plain t) ≡ false = p.stray in
    let e : is_zero_led (plain t) ≡ false = p.led in
    let g = digit_low f low in
    let u : nat_lt (length (padded k c)) 6 ≡ false = le-ltb (length (padded k c)) 6 (omega (arith, count, least)) in
    let v : nat_lt 12 (length (padded k c)) ≡ false = le-ltb 12 (length (padded k c)) (omega (arith, count, most)) in
    let x : nat_le (2 ^ asset_bits (length (padded k c))) (decimal_value (plain t)) ≡ false = rw w p.over in
    rules_fail _ _ _ _ _ _ _ _ a b d e g u v x
  where
    rules_fail : (a b d e g u v x : Bool) → a ≡ false → b ≡ false → d ≡ false → e ≡ false → g ≡ false → u ≡ false → v ≡ false → x ≡ false
        → first_rule ((a || (b || d), fault.Digit) ∷ (e, fault.LeadingZero) ∷ (g, fault.Filter) ∷ (u || v, fault.Digits) ∷ (x, fault.Range) ∷ []) ≡ None
    rules_fail a b d e g u v x p0 p1 p2 p3 p4 p5 p6 p7 = rw (p0, p1, p2, p3, p4, p5, p6, p7) refl

part_fine : (f k c t n : ℕ) (r : Row) → f < 8 → 6 ≤ k → k ≤ 12 → row_at (layout_in Cpi) (12 - k) ≡ Some r → t < 2 ^ r.reference_bits → t < 10 ^ r.reference_digits → t < 2 ^ 64 → n < 2 ^ 31
    → first_rule (part_rules (padded 1 f ∷ padded k c ∷ plain t ∷ plain n ∷ [])) ≡ None
part_fine f k c t n r low least most placed bits digits small last =
    let count : length (padded k c) ≡ k = length-padded k c in
    let w : part_digits (length (padded k c)) ≡ r.reference_digits = ap (λ (m : ℕ). part_digits m) count ∙ most_digits k r most placed in
    let p = fine t r.reference_bits bits small in
    let q = fine n 31 last (omega (arith, last)) in
    let a = a_number (padded 1 f) (digits-padded 1 f) (omega (arith, length-padded 1 f)) in
    let b = a_number (padded k c) (digits-padded k c) (omega (arith, count, least)) in
    let d : is_no_number (plain t) ≡ false = p.stray in
    let h : is_no_number (plain n) ≡ false = q.stray in
    let e : is_zero_led (plain t) ≡ false = p.led in
    let i : is_zero_led (plain n) ≡ false = q.led in
    let g = digit_low f low in
    let u : nat_lt (length (padded k c)) 6 ≡ false = le-ltb (length (padded k c)) 6 (omega (arith, count, least)) in
    let v : nat_lt 12 (length (padded k c)) ≡ false = le-ltb 12 (length (padded k c)) (omega (arith, count, most)) in
    let value : decimal_value (plain t) ≡ t = (plain_is t small).padded.number in
    let x : nat_le (10 ^ part_digits (length (padded k c))) (decimal_value (plain t)) ≡ false = rw (w, value) (lt-leb (10 ^ r.reference_digits) t digits) in
    let y : nat_le (2 ^ 31) (decimal_value (plain n)) ≡ false = q.over in
    rules_fail _ _ _ _ _ _ _ _ _ _ _ a b d h e i g u v x y
  where
    rules_fail : (a b d h e i g u v x y : Bool) → a ≡ false → b ≡ false → d ≡ false → h ≡ false → e ≡ false → i ≡ false → g ≡ false → u ≡ false → v ≡ false → x ≡ false → y ≡ false
        → first_rule ((a || (b || (d || h)), fault.Digit) ∷ (e || i, fault.LeadingZero) ∷ (g, fault.Filter) ∷ (u || v, fault.Digits) ∷ (x || y, fault.Range) ∷ []) ≡ None
    rules_fail a b d h e i g u v x y p0 p1 p2 p3 p4 p5 p6 p7 p8 p9 p10 = rw (p0, p1, p2, p3, p4, p5, p6, p7, p8, p9, p10) refl

-- the GSRN-96 with the numbers of a GSRNP-96 is lawful
service_twin : (f k c t : ℕ) (r : Row) → f < 8 → k ≤ 12 → row_at (layout_in Gsrnp) (12 - k) ≡ Some r → c < 10 ^ k → t < 10 ^ r.reference_digits → IsLawfulEpc (Partitioned Gsrn f k c t 0)
service_twin f k c t r low most placed company reference =
    lawful Gsrn gsrn_96 f k r.reference_digits c t 0 refl refl (record { row = r; short = most; placed = placed; digits = refl }) low company reference (record { zero = λ e. refl; bits = λ e. cc })

-- the GDTI-96 with the numbers of an SGCN-96 is lawful
coupon_twin : (f k c t n : ℕ) (r : Row) → f < 8 → k ≤ 12 → row_at (layout_in Sgcn) (12 - k) ≡ Some r → c < 10 ^ k → t < 10 ^ r.reference_digits → n < 2 ^ 41 → IsLawfulEpc (Partitioned Gdti f k c t n)
coupon_twin f k c t n r low most placed company reference last =
    lawful Gdti gdti_96 f k r.reference_digits c t n refl refl (record { row = r; short = most; placed = placed; digits = refl }) low company reference (record { zero = λ e. cc; bits = λ e. last })

no_fault_in : (s : Scheme) (f k c t n : ℕ) (r : Row) (x : UriFault) → f < 8 → 6 ≤ k → k ≤ 12 → row_at (layout_in s) (12 - k) ≡ Some r → c < 10 ^ k → t < 2 ^ r.reference_bits → t < 10 ^ r.reference_digits → t < 2 ^ 64 → n < 2 ^ (layout_in s).last_bits → IsLastIn s n
    → components (join_with_byte 46 (components_in (made s f k c t n))) ≡ components_in (made s f k c t n) → HasFaultIn s (join_with_byte 46 (components_in (made s f k c t n))) x → ⊥
no_fault_in Giai f k c t n r x low least most placed company bits reference small last_bits last split h =
    let none = asset_fine f k c t r low least most placed bits small in
    let some : first_rule (asset_rules (padded 1 f ∷ padded k c ∷ plain t ∷ [])) ≡ Some x = ap (λ (cs : List (List ℕ)). first_rule (asset_rules cs)) (sym split) ∙ h in
    cc
no_fault_in Cpi f k c t n r x low least most placed company bits reference small last_bits last split h =
    let none = part_fine f k c t n r low least most placed bits reference small last_bits in
    let some : first_rule (part_rules (padded 1 f ∷ padded k c ∷ plain t ∷ plain n ∷ [])) ≡ Some x = ap (λ (cs : List (List ℕ)). first_rule (part_rules cs)) (sym split) ∙ h in
    cc
no_fault_in Gsrnp f k c t n r x low least most placed company bits reference small last_bits last split h =
    let twin : Parts = Partitioned Gsrn f k c t 0 in
    no_fault twin x (service_twin f k c t r low most placed company reference) (subst (λ (u : List ℕ). HasTagFault u x) (sym (uri_is twin)) h)
no_fault_in Sgcn f k c t n r x low least most placed company bits reference small last_bits last split h =
    let twin : Parts = Partitioned Gdti f k c t n in
    let there : HasCouponFault (components_in (made Sgcn f k c t n)) x = subst (λ (cs : List (List ℕ)). HasCouponFault cs x) split h in
    let whole : tag_start ++ scheme_text Gdti (join_with_byte 46 (padded 1 f ∷ padded k c ∷ reference_text Sgcn k t ∷ one_before (drop 1 (plain n)) ∷ [])) ≡ tag_uri twin
    = ap (λ (z : List ℕ). tag_start ++ scheme_text Gdti (join_with_byte 46 (padded 1 f ∷ padded k c ∷ reference_text Sgcn k t ∷ z ∷ []))) (one_again n last) ∙ sym (uri_is twin) in
    no_fault twin x (coupon_twin f k c t n r low most placed company reference last_bits) (subst (λ (u : List ℕ). HasTagFault u x) whole there)

-- ---- all texts

-- what the tag URI of an EPC begins as
begins_in : (epc : Numbers) (text : List ℕ) → text ≡ uri_in epc → BeginsIn text epc.scheme (join_with_byte 46 (components_in epc))
begins_in epc text e = record { begins = e ∙ uri_in_is epc }

begins_as : (epc : Supplier) (text : List ℕ) → text ≡ supplier_uri epc → BeginsAsSupplier text (join_with_byte 46 (supplier_components epc))
begins_as epc text e = record { begins = e ∙ supplier_uri_is epc }

pub words_apart_in : (v w : ℕ) (text : List ℕ) → v < 2 ^ 96 → w < 2 ^ 96 → IsTextInAll v text → IsTextInAll w text → v ≡ w
words_apart_in v w text p q (inl a) (inl b) =
    let same : a.0 ≡ b.0 = one_uri_in a.0 b.0 a.1.lawful b.1.lawful (sym a.2 ∙ b.2) in
    one_word b.0 v w p q (subst (λ (x : Numbers). HasWord x v) same a.1) b.1
words_apart_in v w text p q (inl a) (inr (inl b)) = absurd (one_beginning text a.0.scheme _ _ (begins_in a.0 text a.2) (begins_as b.0 text b.2))
words_apart_in v w text p q (inl a) (inr (inr b)) = absurd (not_begun w text a.0.scheme _ b.1 (begins_in a.0 text a.2))
words_apart_in v w text p q (inr (inl a)) (inl b) = absurd (one_beginning text b.0.scheme _ _ (begins_in b.0 text b.2) (begins_as a.0 text a.2))
words_apart_in v w text p q (inr (inl a)) (inr (inl b)) =
    let same : a.0 ≡ b.0 = one_supplier_uri a.0 b.0 a.1.lawful b.1.lawful (sym a.2 ∙ b.2) in
    one_supplier_word b.0 v w p q (subst (λ (x : Supplier). HasSupplierWord x v) same a.1) b.1
words_apart_in v w text p q (inr (inl a)) (inr (inr b)) = absurd (not_as_supplier w text _ b.1 (begins_as a.0 text a.2))
words_apart_in v w text p q (inr (inr a)) (inl b) = absurd (not_begun v text b.0.scheme _ a.1 (begins_in b.0 text b.2))
words_apart_in v w text p q (inr (inr a)) (inr (inl b)) = absurd (not_as_supplier v text _ a.1 (begins_as b.0 text b.2))
words_apart_in v w text p q (inr (inr a)) (inr (inr b)) = words_apart v w text p q a.1 b.1

-- no word has an EPC with a company prefix and a USDoD-96
pub supplier_apart : (d : Numbers) (e : Supplier) (w : ℕ) → HasWord d w → HasSupplierWord e w → ⊥
supplier_apart d e w a b = header_apart d.scheme w (record { rest = _; begins = (told d w a).spelled }) (supplier_begins e w b)

pub same_text_in : (w : ℕ) (s t : List ℕ) → IsTextInAll w s → IsTextInAll w t → s ≡ t
same_text_in w s t (inl a) (inl b) = a.2 ∙ ap uri_in (one_epc a.0 b.0 w a.1 b.1) ∙ sym b.2
same_text_in w s t (inl a) (inr (inl b)) = absurd (supplier_apart a.0 b.0 w a.1 b.1)
same_text_in w s t (inl a) (inr (inr b)) = absurd (b.0 (inl (a.0, a.1)))
same_text_in w s t (inr (inl a)) (inl b) = absurd (supplier_apart b.0 a.0 w b.1 a.1)
same_text_in w s t (inr (inl a)) (inr (inl b)) = a.2 ∙ ap supplier_uri (one_supplier a.0 b.0 w a.1 b.1) ∙ sym b.2
same_text_in w s t (inr (inl a)) (inr (inr b)) = absurd (b.0 (inr (a.0, a.1)))
same_text_in w s t (inr (inr a)) (inl b) = absurd (a.0 (inl (b.0, b.1)))
same_text_in w s t (inr (inr a)) (inr (inl b)) = absurd (a.0 (inr (b.0, b.1)))
same_text_in w s t (inr (inr a)) (inr (inr b)) = texts_same w s t a.1 b.1

-- no word has an EPC of the older set and one of a further scheme
older_or_further : (d : Parts) (w : ℕ) → older.HasWord d w → IsFurtherWord w → ⊥
older_or_further d w a (inl h) = sets_apart d h.0 w a h.1
older_or_further d w a (inr h) = older_apart d w a (supplier_begins h.0 w h.1)

-- a word that neither kind of further EPC has
pub not_further : (w : ℕ) → ((n : Numbers) → HasWord n w → ⊥) → ((n : Supplier) → HasSupplierWord n w → ⊥) → IsFurtherWord w → ⊥
not_further w a b (inl h) = a h.0 h.1
not_further w a b (inr h) = b h.0 h.1

-- a text of an EPC of a further scheme
not_refused : (epc : Numbers) (f : UriFault) (s : Scheme) (rest : List ℕ) → IsLawful epc → BeginsIn (uri_in epc) s rest → HasFaultIn s rest f → ⊥
not_refused epc f s rest h b x =
    let a = facts epc h in
    let p = text_apart epc.scheme s _ rest (append_cancel_left tag_start _ _ (sym (uri_in_is epc) ∙ b.begins)) in
    no_fault_in epc.scheme epc.filter epc.company_digits epc.company epc.reference epc.last a.row f a.filter a.least a.most a.placed a.company a.reference_bits a.reference a.small a.last_bits a.last (again epc a)
    (subst (λ (t : List ℕ). HasFaultIn epc.scheme t f) (sym p.1) (subst (λ (z : Scheme). HasFaultIn z rest f) (sym p.0) x))

-- nor one of a USDoD-96
not_refused_as : (epc : Supplier) (f : SchemeFault) (rest : List ℕ) → IsSupplier epc → BeginsAsSupplier (supplier_uri epc) rest → HasSupplierTextFault rest f → ⊥
not_refused_as epc f rest h b x =
    let text = append_cancel_left tag_start _ _ (sym b.begins ∙ supplier_uri_is epc) in
    supplier_no_fault epc rest f h (append_cancel_left (codes "usdod-96:") rest (join_with_byte 46 (supplier_components epc)) text) x

short_enough : (n m : ℕ) → m ≤ 96 → n ≡ m → 96 < n → ⊥
short_enough n m few e over = omega (arith, few, e, over)

no_scheme_fault : (w : ℕ) (text : List ℕ) (f : UriFault) → IsTextInAll w text → HasSchemeFault text f → ⊥
no_scheme_fault w text f (inl a) h = not_refused a.0 f h.scheme h.rest a.1.lawful (subst (λ (t : List ℕ). BeginsIn t h.scheme h.rest) a.2 h.begins) h.refused
no_scheme_fault w text f (inr (inl a)) h = one_beginning text h.scheme h.rest _ h.begins (begins_as a.0 text a.2)
no_scheme_fault w text f (inr (inr a)) h = not_begun w text h.scheme h.rest a.1 h.begins

no_fault_as : (w : ℕ) (text : List ℕ) (x : SchemeFault) → IsTextInAll w text → HasFaultAsSupplier text x → ⊥
no_fault_as w text x (inl a) h = one_beginning text a.0.scheme _ h.rest (begins_in a.0 text a.2) h.begins
no_fault_as w text x (inr (inl a)) h = not_refused_as a.0 x h.rest a.1.lawful (subst (λ (t : List ℕ). BeginsAsSupplier t h.rest) a.2 h.begins) h.refused
no_fault_as w text x (inr (inr a)) h = not_as_supplier w text h.rest a.1 h.begins

-- a raw URI that is a word's text in the set is that of no further scheme's word
no_raw : (w : ℕ) (text : List ℕ) → w < 2 ^ 96 → (IsFurtherWord w → ⊥) → IsTextOf w text → IsRawOfFurther text → ⊥
no_raw w text p none is r =
    let there : IsTextOf r.word text = inr ((λ d i. older_or_further d r.word i r.has), r.raw) in
    let same : r.word ≡ w = words_apart r.word w text r.below p there is in
    none (subst (λ (v : ℕ). IsFurtherWord v) same r.has)

no_other_fault : (w : ℕ) (text : List ℕ) (f : UriFault) → w < 2 ^ 96 → IsTextInAll w text → BeginsInNone text → (HasTextFault text f ⊎ ((f ≡ fault.RawOfLawful) × IsRawOfFurther text)) → ⊥
no_other_fault w text f p (inl a) n h = n.no_scheme a.0.scheme _ (begins_in a.0 text a.2)
no_other_fault w text f p (inr (inl a)) n h = n.no_supplier _ (begins_as a.0 text a.2)
no_other_fault w text f p (inr (inr a)) n (inl h) = text_or_fault w text f p a.1 h
no_other_fault w text f p (inr (inr a)) n (inr h) = no_raw w text p a.0 a.1 h.1

no_long_text : (w : ℕ) (text : List ℕ) → IsTextInAll w text → (((s : Scheme) × (rest : List ℕ) × BeginsIn text s rest) ⊎ ((rest : List ℕ) × BeginsAsSupplier text rest)) → 96 < length text → ⊥
no_long_text w text (inl a) h over = short_enough (length text) (length (uri_in a.0)) (uri_short a.0 a.1.lawful) (ap length a.2) over
no_long_text w text (inr (inl a)) h over = short_enough (length text) (length (supplier_uri a.0)) (supplier_short a.0 a.1.lawful) (ap length a.2) over
no_long_text w text (inr (inr a)) (inl h) over = not_begun w text h.0 h.1 a.1 h.2
no_long_text w text (inr (inr a)) (inr h) over = not_as_supplier w text h.0 a.1 h.1

pub no_fault_in_all : (w : ℕ) (text : List ℕ) (x : SchemeFault) → w < 2 ^ 96 → IsTextInAll w text → HasFaultInAll text x → ⊥
no_fault_in_all w text Long p a h = no_long_text w text a h.0 h.1
no_fault_in_all w text Code p a h = no_fault_as w text Code a h
no_fault_in_all w text (Tag f) p a (inl h) = no_scheme_fault w text f a h
no_fault_in_all w text (Tag f) p a (inr (inl h)) = no_fault_as w text (Tag f) a h
no_fault_in_all w text (Tag f) p a (inr (inr h)) = no_other_fault w text f p a h.0 h.1

-- a raw URI of a word of a further scheme
pub is_raw : (w : ℕ) (text : List ℕ) → w < 2 ^ 96 → IsTextOf w text → IsFurtherWord w → IsRawOfFurther text
is_raw w text p (inl a) h = absurd (older_or_further a.0 w a.1 h)
is_raw w text p (inr a) h = record { word = w; below = p; has = h; raw = a.1 }

-- the text that was read
pub read_text : (epc : Numbers) (text : List ℕ) (s : Scheme) (rest : List ℕ) → BeginsIn text s rest → epc.scheme ≡ s → rest ≡ join_with_byte 46 (components_in epc) → text ≡ uri_in epc
read_text epc text s rest b same is = b.begins ∙ ap (λ (z : Scheme). tag_start ++ text_in z rest) (sym same) ∙ ap (λ (x : List ℕ). tag_start ++ text_in epc.scheme x) is ∙ sym (uri_in_is epc)
