-- The pure identity URIs of USDoD-96.
use Rattle.std.proofs.Common.{◌≡◌, ℕ, ◌<◌, ◌≤◌, false, List, [], ◌∷◌, ◌++◌, length, drop, refl, sym, ap, subst, ◌∙◌, arith, inl, inr, length-append}
use Rattle.std.specs.Prelude.{◌==◌, codes}
use Rattle.std.specs.List.{All, join_with_byte}
use Rattle.std.proofs.lemmas.Bool.{ne_eqb}
use Rattle.std.proofs.lemmas.List.{append_cancel_left}
use Rattle.std.proofs.lemmas.List.Elements.{All-nil, All-cons}
use Rattle.std.proofs.lemmas.List.Splits.{slice_split_at}
use Rattle.tag_uri.specs.Calls.Decimal.{AreDigits}
use Rattle.tag_uri.specs.Decimal.{padded, plain}
use Rattle.tag_uri.specs.TagText.{components, tag_start}
use Rattle.tag_uri.proofs.ComponentLemmas.{joined, some_component}
use Rattle.tag_uri.proofs.DecimalLemmas.{plain_short}
use Rattle.tag_uri.proofs.LawfulTexts.{digits_of_plain}
use Rattle.tag_uri.proofs.WritingLemmas.{one_digit, padded_plain}
use Rattle.tag_schemes.specs.declared.scheme.Scheme.{Scheme}
use Rattle.tag_schemes.specs.declared.supplier.Supplier.{Supplier}
use Rattle.tag_schemes.specs.declared.fault.SchemeFault.{SchemeFault}
use Rattle.tag_schemes.specs.declared.fault.SchemeFault.TheVariants as scheme
use Rattle.tag_schemes.specs.AllTexts.{BeginsAsSupplier, HasFaultInAll, IsTextInAll}
use Rattle.tag_schemes.specs.Suppliers.{code_text, supplier_components, supplier_text, supplier_uri, HasSupplierWord, IsSupplier}
use Rattle.tag_schemes.specs.SupplierRules.{HasSupplierTextFault}
use Rattle.tag_schemes.specs.Texts.{text_in}
use Rattle.tag_schemes.proofs.SupplierFacts.{one_supplier}
use Rattle.tag_schemes.proofs.SupplierTexts.{code_is, one_supplier_uri, scheme_text_apart, supplier_no_fault, supplier_uri_is}
use Rattle.tag_schemes.proofs.TextLaws.{not_as_supplier, supplier_apart}
use Rattle.tag_schemes.proofs.WriteFacts.{uri_in_is}
use Rattle.tag_keys.proofs.FormLemmas.{same_some}
use Rattle.tag_scheme_keys.specs.declared.supplier_fault.SupplierFault.{SupplierFault}
use Rattle.tag_scheme_keys.specs.declared.supplier_fault.SupplierFault.TheVariants as supplier
use Rattle.tag_scheme_keys.specs.SupplierIdentity.{supplier_id_start, supplier_id_uri, BeginsAsSupplierId, HasSupplierIdFault}
use Rattle.tag_scheme_keys.proofs.TagLaws.{digit_of}

-- the components without the filter value
abbrev pub code_and_serial : Supplier → List ℕ
code_and_serial epc = join_with_byte 46 (drop 1 (supplier_components epc))

pub supplier_id_is : (epc : Supplier) → supplier_id_uri epc ≡ supplier_id_start ++ code_and_serial epc
unfolding supplier_id_uri
supplier_id_is epc = refl

-- the tag URI, by the same components
pub supplier_tag_is : (epc : Supplier) → supplier_uri epc ≡ tag_start ++ supplier_text (plain epc.filter ++ 46 ∷ code_and_serial epc)
supplier_tag_is epc = supplier_uri_is epc

-- ---- components

dotless : (cs : List ℕ) → AreDigits cs → All (λ x. (x == 46) ≡ false) cs
dotless [] h = All-nil (λ x. (x == 46) ≡ false)
dotless (c ∷ cs) h = let r = h.0 in All-cons (λ x. (x == 46) ≡ false) c cs (ne_eqb c 46 (λ e. omega (arith, r, e))) (dotless cs h.1)

-- what follows digits and a dot
first_cut : (first rest : List ℕ) → AreDigits first → components (first ++ 46 ∷ rest) ≡ first ∷ components rest
unfolding components
first_cut first rest h = slice_split_at (λ b. b == 46) first 46 rest (dotless first h) refl

same_others : (first other x y : List ℕ) → AreDigits first → AreDigits other → first ++ 46 ∷ x ≡ other ++ 46 ∷ y → x ≡ y
same_others first other x y h i e =
    let cs : first ∷ components x ≡ other ∷ components y = sym (first_cut first x h) ∙ ap components e ∙ first_cut other y i in
    let tails : components x ≡ components y = cc in
    sym (joined x) ∙ ap (join_with_byte 46) tails ∙ joined y

filter_digits : (epc : Supplier) → IsSupplier epc → AreDigits (plain epc.filter)
filter_digits epc h = digits_of_plain epc.filter (omega (arith, h.filter))

-- ---- the text of an EPC

-- what follows the colon of its tag URI
pub tag_rest : (epc : Supplier) (tag numbers : List ℕ) → tag ≡ supplier_uri epc → tag ≡ tag_start ++ (codes "usdod-96:" ++ numbers) → numbers ≡ plain epc.filter ++ 46 ∷ code_and_serial epc
tag_rest epc tag numbers e is = append_cancel_left (tag_start ++ codes "usdod-96:") _ _ (sym is ∙ e ∙ supplier_tag_is epc)

pub cut_numbers : (epc : Supplier) (numbers : List ℕ) → IsSupplier epc → numbers ≡ plain epc.filter ++ 46 ∷ code_and_serial epc → components numbers ≡ plain epc.filter ∷ components (code_and_serial epc)
cut_numbers epc numbers h e = ap components e ∙ first_cut (plain epc.filter) (code_and_serial epc) (filter_digits epc h)

pub two_or_more : (epc : Supplier) (numbers : List ℕ) → IsSupplier epc → numbers ≡ plain epc.filter ++ 46 ∷ code_and_serial epc → 1 < length (components numbers)
two_or_more epc numbers h e = let count = ap length (cut_numbers epc numbers h e) in omega (arith, count, some_component (code_and_serial epc))

pub rest_is : (epc : Supplier) (numbers first rest : List ℕ) → IsSupplier epc → numbers ≡ plain epc.filter ++ 46 ∷ code_and_serial epc → components numbers ≡ first ∷ components rest → rest ≡ code_and_serial epc
rest_is epc numbers first rest h e cut =
    let cs : first ∷ components rest ≡ plain epc.filter ∷ components (code_and_serial epc) = sym cut ∙ cut_numbers epc numbers h e in
    let tails : components rest ≡ components (code_and_serial epc) = cc in
    sym (joined rest) ∙ ap (join_with_byte 46) tails ∙ joined (code_and_serial epc)

pub short : (epc : Supplier) → IsSupplier epc → length (code_and_serial epc) ≤ 18
short epc h =
    let e = length-append (code_text epc.code) (46 ∷ plain epc.serial) in
    omega (arith, e, (code_is epc.code h.six h.code).few, plain_short 11 epc.serial (omega (arith, h.serial)) (omega arith) (omega (arith, h.serial)))

pub supplier_id_made : (epc : Supplier) (t0 t1 t2 rest : List ℕ) → t0 ≡ [] → t1 ≡ t0 ++ supplier_id_start → t2 ≡ t1 ++ rest → rest ≡ code_and_serial epc → t2 ≡ supplier_id_uri epc
supplier_id_made epc t0 t1 t2 rest e0 e1 e2 r = rw (e2, e1, e0, r) (sym (supplier_id_is epc))

-- ---- the EPC of a tag URI with the filter value 0

module _ (text rest : List ℕ) (is : text ≡ tag_start ++ supplier_text (codes "0." ++ rest)) where
  begins : BeginsAsSupplier text (codes "0." ++ rest)
  begins = record { begins = is }

  no_scheme : (s : Scheme) (x : List ℕ) → text ≡ tag_start ++ text_in s x → ⊥
  no_scheme s x e = scheme_text_apart s x (codes "0." ++ rest) (append_cancel_left tag_start _ _ (sym e ∙ is))

  same_rest : (x : List ℕ) → BeginsAsSupplier text x → x ≡ codes "0." ++ rest
  same_rest x b = append_cancel_left (tag_start ++ codes "usdod-96:") _ _ (sym b.begins ∙ is)

  pub read_zero : (w : ℕ) (n : Supplier) → IsTextInAll w text → HasSupplierWord n w → rest ≡ code_and_serial n
  read_zero w n (inl a) h = absurd (supplier_apart a.0 n w a.1 h)
  read_zero w n (inr (inl a)) h =
      let same : n ≡ a.0 = one_supplier n a.0 w h a.1 in
      let there = same_rest _ (record { begins = a.2 ∙ ap supplier_uri (sym same) ∙ supplier_tag_is n }) in
      same_others (codes "0") (plain n.filter) rest (code_and_serial n) ((omega arith, omega arith), tt) (filter_digits n h.lawful) (sym there)
  read_zero w n (inr (inr a)) h = absurd (not_as_supplier w text _ a.1 begins)

  pub some_zero : (w : ℕ) → IsTextInAll w text → ((n : Supplier) → HasSupplierWord n w → ⊥) → ⊥
  some_zero w (inl a) none = no_scheme a.0.scheme _ (a.2 ∙ uri_in_is a.0)
  some_zero w (inr (inl a)) none = none a.0 a.1
  some_zero w (inr (inr a)) none = not_as_supplier w text _ a.1 begins

  refused_with : (x : List ℕ) (f : SchemeFault) → BeginsAsSupplier text x → HasSupplierTextFault x f → HasSupplierTextFault (codes "0." ++ rest) f
  refused_with x f b h = subst (λ (y : List ℕ). HasSupplierTextFault y f) (same_rest x b) h

  pub zero_fault : (f : SchemeFault) → length text ≤ 96 → HasFaultInAll text f → HasSupplierTextFault (codes "0." ++ rest) f
  zero_fault scheme.Long few h = let long = h.1 in absurd (omega (arith, long, few))
  zero_fault scheme.Code few h = refused_with h.rest scheme.Code h.begins h.refused
  zero_fault (scheme.Tag f) few (inl h) = absurd (no_scheme h.scheme h.rest h.begins.begins)
  zero_fault (scheme.Tag f) few (inr (inl h)) = refused_with h.rest (scheme.Tag f) h.begins h.refused
  zero_fault (scheme.Tag f) few (inr (inr h)) = absurd (h.0.no_supplier _ begins)

-- ---- laws

pub one_supplier_id_uri : (d e : Supplier) → IsSupplier d → IsSupplier e → d.filter ≡ e.filter → supplier_id_uri d ≡ supplier_id_uri e → d ≡ e
one_supplier_id_uri d e h i filter same =
    let rest : code_and_serial d ≡ code_and_serial e = append_cancel_left supplier_id_start _ _ (sym (supplier_id_is d) ∙ same ∙ supplier_id_is e) in
    let tags = ap (λ (f : ℕ). tag_start ++ supplier_text (plain f ++ 46 ∷ code_and_serial d)) filter ∙ ap (λ (x : List ℕ). tag_start ++ supplier_text (plain e.filter ++ 46 ∷ x)) rest in
    one_supplier_uri d e h i (supplier_tag_is d ∙ tags ∙ sym (supplier_tag_is e))

-- the EPC with another filter value
pub filter_fits : (filter : ℕ) (epc : Supplier) → filter < 16 → IsSupplier epc → IsSupplier (record { filter = filter; code = epc.code; serial = epc.serial })
filter_fits filter epc low h = record { filter = omega (arith, low); six = h.six; code = h.code; serial = h.serial }

zero_text : codes "0" ≡ plain 0
zero_text = sym (digit_of 0 (omega arith)) ∙ ap (λ (k : ℕ). padded k 0) (one_digit 0 (omega arith)) ∙ padded_plain 0 (omega arith)

-- no rule refuses the URI of an EPC
pub no_supplier_id_fault : (epc : Supplier) (fault : SupplierFault) → IsSupplier epc → HasSupplierIdFault (supplier_id_uri epc) fault → ⊥
no_supplier_id_fault epc supplier.Long h w =
    let e : length (supplier_id_uri epc) ≡ length (supplier_id_start ++ code_and_serial epc) = ap length (supplier_id_is epc) in
    omega (arith, e, w, short epc h)
no_supplier_id_fault epc supplier.Start h w = w.1 _ (record { begins = supplier_id_is epc })
no_supplier_id_fault epc (supplier.Tag f) h w =
    let same : w.1 ≡ code_and_serial epc = append_cancel_left supplier_id_start _ _ (sym w.2.begins ∙ supplier_id_is epc) in
    supplier_no_fault (record { filter = 0; code = epc.code; serial = epc.serial }) (codes "0." ++ w.1) f (filter_fits 0 epc (omega arith) h) (ap (λ (x : List ℕ). codes "0." ++ x) same ∙ ap (λ (x : List ℕ). x ++ 46 ∷ code_and_serial epc) zero_text) w.3

same_begun : (text x y : List ℕ) → BeginsAsSupplierId text x → BeginsAsSupplierId text y → x ≡ y
same_begun text x y a b = append_cancel_left supplier_id_start x y (sym a.begins ∙ b.begins)

pub one_supplier_id_fault : (text : List ℕ) (f g : SupplierFault) → HasSupplierIdFault text f → HasSupplierIdFault text g → f ≡ g
one_supplier_id_fault text supplier.Long supplier.Long a b = refl
one_supplier_id_fault text supplier.Long supplier.Start a b = let few = b.0 in absurd (omega (arith, a, few))
one_supplier_id_fault text supplier.Long (supplier.Tag g) a b = let few = b.0 in absurd (omega (arith, a, few))
one_supplier_id_fault text supplier.Start supplier.Long a b = let few = a.0 in absurd (omega (arith, b, few))
one_supplier_id_fault text supplier.Start supplier.Start a b = refl
one_supplier_id_fault text supplier.Start (supplier.Tag g) a b = absurd (a.1 b.1 b.2)
one_supplier_id_fault text (supplier.Tag f) supplier.Long a b = let few = a.0 in absurd (omega (arith, b, few))
one_supplier_id_fault text (supplier.Tag f) supplier.Start a b = absurd (b.1 a.1 a.2)
one_supplier_id_fault text (supplier.Tag f) (supplier.Tag g) a b =
    let there : HasSupplierTextFault (codes "0." ++ b.1) f = subst (λ (x : List ℕ). HasSupplierTextFault (codes "0." ++ x) f) (same_begun text a.1 b.1 a.2 b.2) a.3 in
    ap supplier.Tag (same_some f g (sym there ∙ b.3))
