-- An EPC of a further scheme has one text of its key.
use Rattle.std.proofs.Common.{◌≡◌, ℕ, List, [], ◌∷◌, ◌++◌, length, Some, refl, sym, ap, ◌∙◌, arith, length-append}
use Rattle.std.specs.Prelude.{unwrap_or}
use Rattle.std.specs.List.{join_with_byte}
use Rattle.std.proofs.lemmas.List.{append_cancel_left, same_from_push}
use Rattle.tag_uri.specs.Decimal.{padded, plain}
use Rattle.tag_uri.specs.TagText.{tag_start, reference_digits}
use Rattle.tag_uri.proofs.DecimalLemmas.{digits-padded, length-padded}
use Rattle.tag_uri.proofs.LawfulTexts.{digits_of_plain}
use Rattle.tag_schemes.specs.declared.numbers.Numbers.{Numbers}
use Rattle.tag_schemes.specs.declared.scheme.Scheme.{Scheme}
use Rattle.tag_schemes.specs.declared.scheme.Scheme.TheVariants.{Giai, Gsrnp, Sgcn, Cpi}
use Rattle.tag_schemes.specs.Schemes.{layout_in}
use Rattle.tag_schemes.specs.LawfulWord.{IsLawful}
use Rattle.tag_schemes.specs.Texts.{components_in, reference_text, serial_texts, text_in}
use Rattle.tag_schemes.proofs.SetFacts.{Facts, facts}
use Rattle.tag_schemes.proofs.WriteFacts.{uri_in_is}
use Rattle.tag_schemes.proofs.TextLaws.{one_uri_in}
use Rattle.tag_keys.specs.declared.spelling.Spelling.{Spelling}
use Rattle.tag_keys.specs.declared.spelling.Spelling.TheVariants.{Element, Link, Named}
use Rattle.tag_keys.specs.CheckDigit.{with_check_digit}
use Rattle.tag_keys.proofs.PieceLemmas.{at_seam, digits_both, length-with_check}
use Rattle.tag_scheme_keys.specs.KeyText.{start_in, gap, number_in, key_in}
use Rattle.tag_scheme_keys.proofs.TagLaws.{code, scheme_by, one_by}
use Rattle.tag_scheme_keys.proofs.PartPieces.{one_mark}

pub key_in_is : (s : Spelling) (m : Numbers) → key_in s m ≡ start_in s m.scheme ++ number_in s m.scheme (components_in m)
unfolding key_in
key_in_is s m = refl

pub key_with : (s : Spelling) (m : Numbers) (scheme : Scheme) (text rest : List ℕ) → m.scheme ≡ scheme → text ≡ start_in s scheme ++ rest → rest ≡ number_in s scheme (components_in m) → text ≡ key_in s m
key_with s m scheme text rest e is number = is ∙ ap (λ (x : List ℕ). start_in s scheme ++ x) number ∙ ap (λ (z : Scheme). start_in s z ++ number_in s z (components_in m)) (sym e) ∙ sym (key_in_is s m)

pub key_made : (s : Spelling) (m : Numbers) (scheme : Scheme) (t0 t1 t2 start : List ℕ) → m.scheme ≡ scheme → start ≡ start_in s m.scheme → t0 ≡ [] → t1 ≡ t0 ++ start → t2 ≡ t1 ++ number_in s scheme (components_in m) → t2 ≡ key_in s m
key_made s m scheme t0 t1 t2 start e is e0 e1 e2 =
    let begun : t1 ≡ start_in s scheme = e1 ∙ ap (λ (x : List ℕ). x ++ start) e0 ∙ is ∙ ap (start_in s) e in
    key_with s m scheme t2 (number_in s scheme (components_in m)) e (e2 ∙ ap (λ (x : List ℕ). x ++ number_in s scheme (components_in m)) begun) refl

-- ---- what a text begins with

-- where the letters that tell the schemes apart stand
abbrev code_place : Spelling → ℕ
code_place Element = 3
code_place Link = 21
code_place Named = 0

abbrev start_letters : Spelling → Scheme → ℕ
start_letters s scheme = code (code_place s) (start_in s scheme)

by_start : (s : Spelling) (scheme : Scheme) → scheme_by (start_letters s) (start_letters s scheme) ≡ Some scheme
by_start Element Giai = refl
by_start Element Gsrnp = refl
by_start Element Sgcn = refl
by_start Element Cpi = refl
by_start Link Giai = refl
by_start Link Gsrnp = refl
by_start Link Sgcn = refl
by_start Link Cpi = refl
by_start Named Giai = refl
by_start Named Gsrnp = refl
by_start Named Sgcn = refl
by_start Named Cpi = refl

text_start : (s : Spelling) (scheme : Scheme) (x : List ℕ) → code (code_place s) (start_in s scheme ++ x) ≡ start_letters s scheme
text_start Element Giai x = refl
text_start Element Gsrnp x = refl
text_start Element Sgcn x = refl
text_start Element Cpi x = refl
text_start Link Giai x = refl
text_start Link Gsrnp x = refl
text_start Link Sgcn x = refl
text_start Link Cpi x = refl
text_start Named Giai x = refl
text_start Named Gsrnp x = refl
text_start Named Sgcn x = refl
text_start Named Cpi x = refl

-- a text begins with the start of one key at most
pub one_start_in : (s : Spelling) (a b : Scheme) (x y : List ℕ) → start_in s a ++ x ≡ start_in s b ++ y → (a ≡ b) × (x ≡ y)
one_start_in s a b x y e =
    let same : a ≡ b = one_by (start_letters s) (by_start s) a b (sym (text_start s a x) ∙ ap (code (code_place s)) e ∙ text_start s b y) in
    (same, append_cancel_left (start_in s a) x y (e ∙ ap (λ (z : Scheme). start_in s z ++ y) (sym same)))

-- ---- one EPC

abbrev checked_texts : Scheme → Numbers → List (List ℕ)
checked_texts z m = padded 1 m.filter ∷ padded m.company_digits m.company ∷ reference_text z m.company_digits m.reference ∷ serial_texts z m.last

texts_are : (z : Scheme) (m : Numbers) → m.scheme ≡ z → components_in m ≡ checked_texts z m
texts_are z m e = rw e refl

companies_long : (d e : Numbers) → d.company_digits ≡ e.company_digits → length (padded d.company_digits d.company) ≡ length (padded e.company_digits e.company)
companies_long d e k = length-padded d.company_digits d.company ∙ k ∙ sym (length-padded e.company_digits e.company)

-- the front of a GCN has as many digits
fronts_long : (d e : Numbers) → d.company_digits ≡ e.company_digits → length (with_check_digit (padded d.company_digits d.company ++ reference_text Sgcn d.company_digits d.reference)) ≡ length (with_check_digit (padded e.company_digits e.company ++ reference_text Sgcn e.company_digits e.reference))
fronts_long d e k =
    let same : unwrap_or (reference_digits (layout_in Sgcn).rows d.company_digits) 0 ≡ unwrap_or (reference_digits (layout_in Sgcn).rows e.company_digits) 0 = ap (λ (n : ℕ). unwrap_or (reference_digits (layout_in Sgcn).rows n) 0) k in
    let a = length-append (padded d.company_digits d.company) (reference_text Sgcn d.company_digits d.reference) in
    let b = length-append (padded e.company_digits e.company) (reference_text Sgcn e.company_digits e.reference) in
    omega (
      arith,
      a,
      b,
      same,
      companies_long d e k,
      length-padded (unwrap_or (reference_digits (layout_in Sgcn).rows d.company_digits) 0) d.reference,
      length-padded (unwrap_or (reference_digits (layout_in Sgcn).rows e.company_digits) 0) e.reference,
      length-with_check (padded d.company_digits d.company ++ reference_text Sgcn d.company_digits d.reference),
      length-with_check (padded e.company_digits e.company ++ reference_text Sgcn e.company_digits e.reference),
    )

same_texts : (s : Spelling) (z : Scheme) (d e : Numbers) → Facts d → Facts e → d.filter ≡ e.filter → d.company_digits ≡ e.company_digits → number_in s z (checked_texts z d) ≡ number_in s z (checked_texts z e) → checked_texts z d ≡ checked_texts z e
same_texts s Giai d e a b f k same =
    let p = at_seam (padded d.company_digits d.company) (padded e.company_digits e.company) _ _ same (companies_long d e k) in
    let c = p.0 in let r = p.1 in let g : padded 1 d.filter ≡ padded 1 e.filter = ap (padded 1) f in cc
same_texts s Gsrnp d e a b f k same =
    let whole = (same_from_push (padded d.company_digits d.company ++ reference_text Gsrnp d.company_digits d.reference) (padded e.company_digits e.company ++ reference_text Gsrnp e.company_digits e.reference) _ _ same).0 in
    let p = at_seam (padded d.company_digits d.company) (padded e.company_digits e.company) _ _ whole (companies_long d e k) in
    let c = p.0 in let r = p.1 in let g : padded 1 d.filter ≡ padded 1 e.filter = ap (padded 1) f in cc
same_texts s Sgcn d e a b f k same =
    let seam = at_seam _ _ _ _ same (fronts_long d e k) in
    let whole = (same_from_push (padded d.company_digits d.company ++ reference_text Sgcn d.company_digits d.reference) (padded e.company_digits e.company ++ reference_text Sgcn e.company_digits e.reference) _ _ seam.0).0 in
    let p = at_seam (padded d.company_digits d.company) (padded e.company_digits e.company) _ _ whole (companies_long d e k) in
    let c = p.0 in let r = p.1 in let x = append_cancel_left (gap s) _ _ seam.1 in let g : padded 1 d.filter ≡ padded 1 e.filter = ap (padded 1) f in cc
same_texts s Cpi d e a b f k same =
    let q = one_mark s (padded d.company_digits d.company ++ plain d.reference) (padded e.company_digits e.company ++ plain e.reference) (plain d.last) (plain e.last)
    (digits_both _ _ (digits-padded d.company_digits d.company) (digits_of_plain d.reference a.small)) (digits_both _ _ (digits-padded e.company_digits e.company) (digits_of_plain e.reference b.small)) same in
    let p = at_seam (padded d.company_digits d.company) (padded e.company_digits e.company) _ _ q.0 (companies_long d e k) in
    let c = p.0 in let r = p.1 in let x = q.1 in let g : padded 1 d.filter ≡ padded 1 e.filter = ap (padded 1) f in cc

pub one_key_in : (s : Spelling) (d e : Numbers) → IsLawful d → IsLawful e → d.filter ≡ e.filter → d.company_digits ≡ e.company_digits → key_in s d ≡ key_in s e → d ≡ e
one_key_in s d e h i f k same =
    let p = one_start_in s d.scheme e.scheme _ _ (sym (key_in_is s d) ∙ same ∙ key_in_is s e) in
    let numbers : number_in s e.scheme (checked_texts e.scheme d) ≡ number_in s e.scheme (checked_texts e.scheme e) =
    ap (λ (z : Scheme). number_in s z (checked_texts z d)) (sym p.0) ∙ p.1 in
    let texts : components_in d ≡ components_in e = texts_are e.scheme d p.0 ∙ same_texts s e.scheme d e (facts d h) (facts e i) f k numbers in
    one_uri_in d e h i (uri_in_is d ∙ ap (λ (z : Scheme). tag_start ++ text_in z (join_with_byte 46 (components_in d))) p.0 ∙ ap (λ (x : List (List ℕ)). tag_start ++ text_in e.scheme (join_with_byte 46 x)) texts ∙ sym (uri_in_is e))
