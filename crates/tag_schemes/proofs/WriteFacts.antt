-- Texts that are written.
use Rattle.std.proofs.Common.{◌≡◌, ℕ, suc, ◌+◌, ◌-◌, ◌/◌, ◌%◌, ◌^◌, ◌≤◌, List, [], ◌∷◌, ◌++◌, length, Some, refl, sym, ap, subst, ◌∙◌, arith, append_assoc, length-append, lit≤}
use Rattle.std.specs.Prelude.{option_map, unwrap_or}
use Rattle.std.specs.List.{join_with_byte}
use Rattle.std.proofs.lemmas.List.{append-nil}
use Rattle.tag_epc.specs.declared.scheme.Row.{Row}
use Rattle.tag_epc.specs.Layout.{row_at}
use Rattle.tag_uri.specs.Decimal.{padded}
use Rattle.tag_uri.specs.TagText.{reference_digits, tag_start}
use Rattle.tag_uri.proofs.DecimalLemmas.{length-padded}
use Rattle.tag_uri.proofs.RowDigits.{reference_digits-at}
use Rattle.tag_schemes.specs.declared.numbers.Numbers.{Numbers}
use Rattle.tag_schemes.specs.declared.scheme.Scheme.{Scheme}
use Rattle.tag_schemes.specs.declared.scheme.Scheme.TheVariants.{Giai, Gsrnp, Sgcn, Cpi}
use Rattle.tag_schemes.specs.Schemes.{layout_in, gsrnp_96, sgcn_96, cpi_96}
use Rattle.tag_schemes.specs.LawfulWord.{IsLawful}
use Rattle.tag_schemes.specs.Texts.{components_in, reference_text, serial_texts, text_in, uri_in}

-- no digits
pub pad_none : (t : List ℕ) (k n : ℕ) → k ≡ 0 → t ≡ t ++ padded k n
unfolding padded
pad_none t k n e = sym (append-nil t) ∙ rw e refl

-- a digit, and then the others
pub pad_more : (t t1 t2 : List ℕ) (k m n p d : ℕ) → k ≡ suc m → p ≡ 10 ^ m → d ≡ 48 + n / p % 10 → t1 ≡ t ++ d ∷ [] → t2 ≡ t1 ++ padded m n → t2 ≡ t ++ padded k n
unfolding padded
pad_more t t1 t2 k m n p d e f is e1 e2 = rw (e2, e1, is, e, f) (simp append_assoc refl)

pub pad_length : (t t2 : List ℕ) (k n : ℕ) → t2 ≡ t ++ padded k n → length t2 ≡ length t + k
pad_length t t2 k n e = ap length e ∙ length-append t (padded k n) ∙ omega (arith, length-padded k n)

-- a name has at most eight letters
pub name_short : (s : Scheme) → length (layout_in s).name ≤ 8
name_short Giai = lit≤ tt
name_short Gsrnp = lit≤ tt
name_short Sgcn = lit≤ tt
name_short Cpi = lit≤ tt

-- the digits of a company prefix
pub company_short : (m : Numbers) → IsLawful m → m.company_digits ≤ 12
company_short m a = omega (arith, a.has.counted)

-- the digits of the reference of a GSRNP-96
pub service_digits : (k : ℕ) (r : Row) → k ≤ 12 → row_at (layout_in Gsrnp) (12 - k) ≡ Some r → unwrap_or (reference_digits (layout_in Gsrnp).rows k) 0 ≡ r.reference_digits
service_digits k r few placed =
    ap (λ o. unwrap_or o 0) (reference_digits-at gsrnp_96 k (12 - k) refl (omega arith)) ∙ ap (λ o. unwrap_or (option_map (λ x. x.reference_digits) o) 0) placed

-- the digits of the reference of an SGCN-96
pub coupon_digits : (k : ℕ) (r : Row) → k ≤ 12 → row_at (layout_in Sgcn) (12 - k) ≡ Some r → unwrap_or (reference_digits (layout_in Sgcn).rows k) 0 ≡ r.reference_digits
coupon_digits k r few placed =
    ap (λ o. unwrap_or o 0) (reference_digits-at sgcn_96 k (12 - k) refl (omega arith)) ∙ ap (λ o. unwrap_or (option_map (λ x. x.reference_digits) o) 0) placed

-- the most digits of the reference of a CPI-96
pub most_digits : (k : ℕ) (r : Row) → k ≤ 12 → row_at (layout_in Cpi) (12 - k) ≡ Some r → unwrap_or (reference_digits (layout_in Cpi).rows k) 0 ≡ r.reference_digits
most_digits k r few placed =
    ap (λ o. unwrap_or o 0) (reference_digits-at cpi_96 k (12 - k) refl (omega arith)) ∙ ap (λ o. unwrap_or (option_map (λ x. x.reference_digits) o) 0) placed

-- the reference as it is written
pub reference_service : (s : Scheme) (k t : ℕ) (r : Row) → s ≡ Gsrnp → k ≤ 12 → row_at (layout_in s) (12 - k) ≡ Some r → reference_text s k t ≡ padded r.reference_digits t
reference_service s k t r e few placed =
    ap (λ (x : Scheme). reference_text x k t) e ∙ ap (λ (d : ℕ). padded d t) (service_digits k r few (subst (λ (x : Scheme). row_at (layout_in x) (12 - k) ≡ Some r) e placed))

pub reference_coupon : (s : Scheme) (k t : ℕ) (r : Row) → s ≡ Sgcn → k ≤ 12 → row_at (layout_in s) (12 - k) ≡ Some r → reference_text s k t ≡ padded r.reference_digits t
reference_coupon s k t r e few placed =
    ap (λ (x : Scheme). reference_text x k t) e ∙ ap (λ (d : ℕ). padded d t) (coupon_digits k r few (subst (λ (x : Scheme). row_at (layout_in x) (12 - k) ≡ Some r) e placed))

pub uri_in_is : (m : Numbers) → uri_in m ≡ tag_start ++ text_in m.scheme (join_with_byte 46 (components_in m))
unfolding uri_in
uri_in_is m = refl

-- the pieces of a tag URI, one after another
pub pieces : (m : Numbers) (t0 t1 t2 t3 t4 t5 t6 t7 t8 : List ℕ) (start name : List ℕ) → start ≡ tag_start → name ≡ (layout_in m.scheme).name → t0 ≡ [] → t1 ≡ t0 ++ start → t2 ≡ t1 ++ name → t3 ≡ t2 ++ 58 ∷ [] → t4 ≡ t3 ++ padded 1 m.filter → t5 ≡ t4 ++ 46 ∷ []
    → t6 ≡ t5 ++ padded m.company_digits m.company → t7 ≡ t6 ++ 46 ∷ [] → t8 ≡ t7 ++ join_with_byte 46 (reference_text m.scheme m.company_digits m.reference ∷ serial_texts m.scheme m.last) → t8 ≡ uri_in m
pieces m t0 t1 t2 t3 t4 t5 t6 t7 t8 start name s n e0 e1 e2 e3 e4 e5 e6 e7 e8 =
    rw (e8, e7, e6, e5, e4, e3, e2, e1, e0, n, s) (simp append_assoc refl) ∙ sym (uri_in_is m)
