-- An EPC of a further scheme has one pure identity URI, and with a filter value a pure identity URI is one EPC's.
use Rattle.std.proofs.Common.{◌≡◌, ℕ, ◌+◌, ◌<◌, ◌≤◌, List, [], ◌∷◌, ◌++◌, length, drop, refl, sym, ap, subst, ◌∙◌, arith, length-append, lit≤}
use Rattle.std.specs.List.{join_with_byte}
use Rattle.std.proofs.lemmas.List.{append_assoc, append_cancel_left}
use Rattle.tag_uri.specs.Decimal.{padded}
use Rattle.tag_uri.specs.TagText.{tag_start}
use Rattle.tag_uri.proofs.DecimalLemmas.{length-padded}
use Rattle.tag_schemes.specs.declared.numbers.Numbers.{Numbers}
use Rattle.tag_schemes.specs.declared.scheme.Scheme.{Scheme}
use Rattle.tag_schemes.specs.declared.scheme.Scheme.TheVariants.{Giai, Gsrnp, Sgcn, Cpi}
use Rattle.tag_schemes.specs.Schemes.{layout_in}
use Rattle.tag_schemes.specs.LawfulWord.{IsLawful}
use Rattle.tag_schemes.specs.Texts.{components_in, reference_text, serial_texts, text_in, uri_in, HasFaultIn}
use Rattle.tag_schemes.proofs.SetFacts.{facts}
use Rattle.tag_schemes.proofs.WriteFacts.{uri_in_is}
use Rattle.tag_schemes.proofs.TextLaws.{one_uri_in}
use Rattle.tag_keys.specs.declared.fault.KeyFault.{KeyFault}
use Rattle.tag_keys.specs.declared.fault.KeyFault.TheVariants as key
use Rattle.tag_keys.specs.PureIdentity.{id_start}
use Rattle.tag_keys.proofs.PieceLemmas.{at_seam}
use Rattle.tag_keys.proofs.KeyLaws.{padded_one}
use Rattle.tag_scheme_keys.specs.PureIdentity.{id_name_in, id_text_in, id_uri_in}
use Rattle.tag_scheme_keys.specs.KeyFaults.{with_filter_in, HasIdFaultIn}
use Rattle.tag_scheme_keys.proofs.TagLaws.{code, first_letters, one_by_letters, after_colon, no_fault_with, reference_and_serial, reference_long, serial_long}

-- the components without the filter value
abbrev pub others : Numbers → List ℕ
others epc = join_with_byte 46 (drop 1 (components_in epc))

pub id_in_is : (epc : Numbers) → id_uri_in epc ≡ id_start ++ id_text_in epc.scheme (others epc)
unfolding id_uri_in
id_in_is epc = refl

numbers_in_are : (epc : Numbers) → join_with_byte 46 (components_in epc) ≡ with_filter_in epc.filter (others epc)
numbers_in_are epc = refl

-- the tag URI, by the same components
pub tag_in_is : (epc : Numbers) → uri_in epc ≡ tag_start ++ text_in epc.scheme (with_filter_in epc.filter (others epc))
tag_in_is epc = uri_in_is epc ∙ ap (λ (x : List ℕ). tag_start ++ text_in epc.scheme x) (numbers_in_are epc)

id_letters : (s : Scheme) (x : List ℕ) → code 0 (id_text_in s x) ≡ first_letters s
id_letters Giai x = refl
id_letters Gsrnp x = refl
id_letters Sgcn x = refl
id_letters Cpi x = refl

pub one_id_text : (s t : Scheme) (x y : List ℕ) → id_text_in s x ≡ id_text_in t y → (s ≡ t) × (x ≡ y)
one_id_text s t x y e =
    let same : s ≡ t = one_by_letters s t (sym (id_letters s x) ∙ ap (code 0) e ∙ id_letters t y) in
    (same, after_colon (id_name_in s) x y (e ∙ ap (λ (z : Scheme). id_text_in z y) (sym same)))

pub one_id_in : (d e : Numbers) → IsLawful d → IsLawful e → d.filter ≡ e.filter → id_uri_in d ≡ id_uri_in e → d ≡ e
one_id_in d e h i filter same =
    let p = one_id_text d.scheme e.scheme _ _ (append_cancel_left id_start _ _ (sym (id_in_is d) ∙ same ∙ id_in_is e)) in
    let tags : tag_start ++ text_in d.scheme (with_filter_in d.filter (others d)) ≡ tag_start ++ text_in e.scheme (with_filter_in e.filter (others e)) =
    ap (λ (s : Scheme). tag_start ++ text_in s (with_filter_in d.filter (others d))) p.0 ∙ ap (λ (x : List ℕ). tag_start ++ text_in e.scheme (with_filter_in d.filter x)) p.1
    ∙ ap (λ (f : ℕ). tag_start ++ text_in e.scheme (with_filter_in f (others e))) filter in
    one_uri_in d e h i (tag_in_is d ∙ tags ∙ sym (tag_in_is e))

-- ---- no rule refuses it

id_name_short : (s : Scheme) → length (id_name_in s) ≤ 5
id_name_short Giai = lit≤ tt
id_name_short Gsrnp = lit≤ tt
id_name_short Sgcn = lit≤ tt
id_name_short Cpi = lit≤ tt

pub others_short : (m : Numbers) → IsLawful m → length (others m) ≤ 47
others_short m h =
    let a = facts m h in
    let reference : List ℕ = reference_text m.scheme m.company_digits m.reference in
    let serials : List ℕ = join_with_byte 46 ([] ∷ serial_texts m.scheme m.last) in
    let e1 = length-append (padded m.company_digits m.company) (46 ∷ join_with_byte 46 (reference ∷ serial_texts m.scheme m.last)) in
    omega (arith, e1, reference_and_serial reference (serial_texts m.scheme m.last), length-padded m.company_digits m.company, a.most, reference_long m.scheme m.company_digits m.reference a.row a.most a.placed a.small, serial_long m.scheme m.last a.last_bits)

pub id_short : (m : Numbers) → IsLawful m → length (id_uri_in m) ≤ 72
id_short m h =
    let e : length (id_uri_in m) ≡ length (id_start ++ id_text_in m.scheme (others m)) = ap length (id_in_is m) in
    omega (arith, e, length-append (id_name_in m.scheme) (58 ∷ others m), id_name_short m.scheme, others_short m h)

pub no_id_fault_in : (epc : Numbers) (filter : ℕ) (fault : KeyFault) → IsLawful epc → epc.filter ≡ filter → HasIdFaultIn filter (id_uri_in epc) fault → ⊥
no_id_fault_in epc filter key.Long h e w = let s = id_short epc h in omega (arith, s, w)
no_id_fault_in epc filter key.Start h e w = w.1 _ (id_in_is epc)
no_id_fault_in epc filter key.Scheme h e w = w.3 epc.scheme _ (append_cancel_left id_start _ _ (sym w.2 ∙ id_in_is epc))
no_id_fault_in epc filter (key.Tag f) h e w =
    let p = one_id_text w.1 epc.scheme _ _ (append_cancel_left id_start _ _ (sym w.3 ∙ id_in_is epc)) in
    let same : with_filter_in filter w.2 ≡ join_with_byte 46 (components_in epc) = ap (with_filter_in filter) p.1 ∙ ap (λ (g : ℕ). with_filter_in g (others epc)) (sym e) ∙ sym (numbers_in_are epc) in
    no_fault_with epc f h (subst (λ (x : List ℕ). HasFaultIn epc.scheme x f) same (subst (λ (s : Scheme). HasFaultIn s (with_filter_in filter w.2) f) p.0 w.4))
no_id_fault_in epc filter key.Length h e w = w
no_id_fault_in epc filter key.Digit h e w = w
no_id_fault_in epc filter (key.Check right) h e w = w
no_id_fault_in epc filter key.Serial h e w = w

-- ---- the EPC of a text

-- what is asked of the EPC holds
pub read_id_in : (filter : ℕ) (epc : Numbers) (text rest : List ℕ) (s : Scheme) → IsLawful epc → filter < 8 → text ≡ id_start ++ id_text_in s rest → epc.scheme ≡ s → with_filter_in filter rest ≡ join_with_byte 46 (components_in epc) → (text ≡ id_uri_in epc) × (epc.filter ≡ filter)
read_id_in filter epc text rest s h low named same is =
    let seam = at_seam (padded 1 filter) (padded 1 epc.filter) (46 ∷ rest) (46 ∷ others epc) (is ∙ numbers_in_are epc) (length-padded 1 filter ∙ sym (length-padded 1 epc.filter)) in
    let dotted = seam.1 in
    let tail : rest ≡ others epc = cc in
    (named ∙ ap (λ (z : Scheme). id_start ++ id_text_in z rest) (sym same) ∙ ap (λ (x : List ℕ). id_start ++ id_text_in epc.scheme x) tail ∙ sym (id_in_is epc), padded_one epc.filter filter (facts epc h).filter low (sym seam.0))

-- ---- the text of an EPC

-- what comes before the dot after the filter value
abbrev pub tag_front : Numbers → List ℕ
tag_front epc = tag_start ++ ((layout_in epc.scheme).name ++ 58 ∷ padded 1 epc.filter)

pub front_long : (epc : Numbers) → length (tag_front epc) + 1 ≡ length (layout_in epc.scheme).name + 15
front_long epc = omega (arith, length-append (layout_in epc.scheme).name (58 ∷ padded 1 epc.filter), length-padded 1 epc.filter)

pub at_dot : (epc : Numbers) (tag : List ℕ) → tag ≡ uri_in epc → tag ≡ tag_front epc ++ 46 ∷ others epc
at_dot epc tag e = e ∙ tag_in_is epc ∙ simp append_assoc refl

pub id_made : (epc : Numbers) (t0 t1 t2 t3 t4 name rest : List ℕ) → t0 ≡ [] → t1 ≡ t0 ++ id_start → t2 ≡ t1 ++ name → t3 ≡ t2 ++ 58 ∷ [] → t4 ≡ t3 ++ rest → name ≡ id_name_in epc.scheme → rest ≡ others epc → t4 ≡ id_uri_in epc
id_made epc t0 t1 t2 t3 t4 name rest e0 e1 e2 e3 e4 n r =
    let there : t4 ≡ id_start ++ (name ++ 58 ∷ rest) = rw (e4, e3, e2, e1, e0) (simp append_assoc refl) in
    there ∙ ap (λ (x : List ℕ). id_start ++ (x ++ 58 ∷ rest)) n ∙ ap (λ (x : List ℕ). id_start ++ id_text_in epc.scheme x) r ∙ sym (id_in_is epc)

-- ---- room for the tag URI of a text

pub id_room : (f : ℕ) (text numbers bytes rest : List ℕ) (s : Scheme) → text ≡ id_start ++ id_text_in s rest → length text ≤ 72 → bytes ≡ with_filter_in f rest → numbers ≡ bytes → length numbers ≤ 75
id_room f text numbers bytes rest s e few is same =
    let whole : length text ≡ length (id_start ++ id_text_in s rest) = ap length e in
    let long : length numbers ≡ length (with_filter_in f rest) = ap length same ∙ ap length is in
    omega (arith, whole, long, few, length-append (id_name_in s) (58 ∷ rest), length-append (padded 1 f) (46 ∷ rest), length-padded 1 f)
