-- The forms of words, and the words of texts, in the set of all schemes.
use Rattle.std.proofs.Common.{◌≡◌, ℕ, ◌^◌, ◌<◌, List, Option, Some, None, refl, sym, ap, ◌∙◌, subst, inl, inr}
use Rattle.std.specs.Prelude.{◌⊎◌, IfErr, IfOk, MatchOption, Result}
use Rattle.tag_epc.specs.LawfulWord as older
use Rattle.tag_epc.specs.declared.epc.Parts.{Parts}
use Rattle.tag_keys.specs.declared.spelling.Spelling.{Spelling}
use Rattle.tag_keys.specs.declared.spelling.Spelling.TheVariants as spelling
use Rattle.tag_keys.specs.KeyFaults.{HasIdFault}
use Rattle.tag_keys.proofs.IdLaws.{no_id_fault}
use Rattle.tag_keys.proofs.KeyLaws.{no_key_fault}
use Rattle.tag_schemes.specs.declared.numbers.Numbers.{Numbers}
use Rattle.tag_schemes.specs.declared.supplier.Supplier.{Supplier}
use Rattle.tag_schemes.specs.LawfulWord.{HasWord}
use Rattle.tag_schemes.specs.Suppliers.{HasSupplierWord}
use Rattle.tag_schemes.proofs.SetFacts.{one_epc, one_word, sets_apart}
use Rattle.tag_schemes.proofs.SupplierFacts.{older_apart, one_supplier, one_supplier_word, supplier_begins}
use Rattle.tag_schemes.proofs.TextLaws.{no_fault_in_all, same_text_in, supplier_apart, words_apart_in}
use Rattle.tag_scheme_keys.specs.KeyFaults.{HasIdFaultIn, HasKeyFaultIn}
use Rattle.tag_scheme_keys.specs.KeyText.{key_in}
use Rattle.tag_scheme_keys.specs.PureIdentity.{id_uri_in}
use Rattle.tag_scheme_keys.specs.SupplierIdentity.{supplier_id_uri, HasSupplierIdFault}
use Rattle.tag_scheme_keys.proofs.IdLaws.{id_in_is, no_id_fault_in, one_id_in}
use Rattle.tag_scheme_keys.proofs.KeyFaultLaws.{no_key_fault_in}
use Rattle.tag_scheme_keys.proofs.KeyLaws.{one_key_in}
use Rattle.tag_scheme_keys.proofs.SupplierIds.{no_supplier_id_fault, one_supplier_id_uri, supplier_id_is}
use Rattle.tag_forms.specs.declared.form.Form.{Form}
use Rattle.tag_forms.specs.declared.form.Form.TheVariants.{Tag, Pure, Element, Link, Hex, Key}
use Rattle.tag_forms.specs.declared.fault.FormFault.{FormFault}
use Rattle.tag_forms.specs.declared.fault.FormFault.TheVariants as fault
use Rattle.tag_forms.specs.declared.all_forms.AllFault.{AllFault}
use Rattle.tag_forms.specs.declared.all_forms.AllFault.TheVariants as all
use Rattle.tag_forms.specs.Forms.{IsKeyOf, IsTextIn, ReadsAs, ReadsKeyOf}
use Rattle.tag_forms.specs.Faults.{HasFaultAsKey, HasFaultIn}
use Rattle.tag_forms.specs.FurtherForms.{BeginsFurther, BeginsFurtherKey, IsFurtherIdOf, IsFurtherKeyOf, IsFurtherTextIn, ReadsFurther, ReadsFurtherId, ReadsFurtherKey}
use Rattle.tag_forms.specs.FurtherFaults.{HasFurtherKeyFault, RefusesFurther, RefusesFurtherId, RefusesFurtherKey}
use Rattle.tag_forms.specs.AllForms.{IsFormInAll, ReadsInAll, RefusesInAll}
use Rattle.tag_forms.proofs.Beginnings.{id_begins, key_begins, older_id, older_key, one_id_beginning}
use Rattle.tag_forms.proofs.FormLemmas.{one_key_word, one_text, one_word_read}

pub neither : {A B : Type 0} → (A → ⊥) → (B → ⊥) → A ⊎ B → ⊥
neither a b (inl h) = a h
neither a b (inr h) = b h

-- ---- a form but the tag form

pub form_too : {X : Type 0} (bytes : X → List ℕ) (form : Form) (w : ℕ) (r : Option X) → (form ≡ Tag → ⊥)
    → MatchOption r ((text : List ℕ) → IsFurtherTextIn form w text ⊎ IsTextIn form w text → ⊥) (λ t. IsFurtherTextIn form w (bytes t) ⊎ IsTextIn form w (bytes t))
    → MatchOption r ((text : List ℕ) → IsFormInAll form w text → ⊥) (λ t. IsFormInAll form w (bytes t))
form_too bytes Tag w r other h = absurd (other refl)
form_too bytes Pure w r other h = h
form_too bytes Element w r other h = h
form_too bytes Link w r other h = h
form_too bytes Hex w r other h = h
form_too bytes Key w r other h = h

pub reads_too : (form : Form) (filter : ℕ) (count : Option ℕ) (text : List ℕ) (r : Result ℕ AllFault) → (form ≡ Tag → ⊥) → IfOk r (λ w. ReadsFurther form filter count text w ⊎ ReadsAs form filter count text w)
    → IfOk r (λ w. ReadsInAll form filter count text w)
reads_too Tag filter count text r other h = absurd (other refl)
reads_too Pure filter count text r other h = h
reads_too Element filter count text r other h = h
reads_too Link filter count text r other h = h
reads_too Hex filter count text r other h = h
reads_too Key filter count text r other h = h

pub refuses_too : (form : Form) (filter : ℕ) (count : Option ℕ) (text : List ℕ) (r : Result ℕ AllFault) → (form ≡ Tag → ⊥)
    → IfErr r (λ f. RefusesFurther form filter count text f ⊎ ((BeginsFurther form text → ⊥) × (rule : FormFault) × HasFaultIn form filter count text rule × (f ≡ all.Form rule))) → IfErr r (λ f. RefusesInAll form filter count text f)
refuses_too Tag filter count text r other h = absurd (other refl)
refuses_too Pure filter count text r other h = h
refuses_too Element filter count text r other h = h
refuses_too Link filter count text r other h = h
refuses_too Hex filter count text r other h = h
refuses_too Key filter count text r other h = h

-- ---- one text

id_same : (w : ℕ) (s t : List ℕ) → IsFurtherIdOf w s → IsFurtherIdOf w t → s ≡ t
id_same w s t (inl a) (inl b) = a.2 ∙ ap id_uri_in (one_epc a.0 b.0 w a.1 b.1) ∙ sym b.2
id_same w s t (inl a) (inr b) = absurd (supplier_apart a.0 b.0 w a.1 b.1)
id_same w s t (inr a) (inl b) = absurd (supplier_apart b.0 a.0 w b.1 a.1)
id_same w s t (inr a) (inr b) = a.2 ∙ ap supplier_id_uri (one_supplier a.0 b.0 w a.1 b.1) ∙ sym b.2

key_same : (s : Spelling) (w : ℕ) (t u : List ℕ) → IsFurtherKeyOf s w t → IsFurtherKeyOf s w u → t ≡ u
key_same s w t u a b = a.2 ∙ ap (key_in s) (one_epc a.0 b.0 w a.1 b.1) ∙ sym b.2

id_or_older : (w : ℕ) (epc : Parts) (text : List ℕ) → IsFurtherIdOf w text → older.HasWord epc w → ⊥
id_or_older w epc text (inl a) b = sets_apart epc a.0 w b a.1
id_or_older w epc text (inr a) b = older_apart epc w b (supplier_begins a.0 w a.1)

pure_same : (w : ℕ) (s t : List ℕ) → IsFormInAll Pure w s → IsFormInAll Pure w t → s ≡ t
pure_same w s t (inl a) (inl b) = id_same w s t a b
pure_same w s t (inl a) (inr b) = absurd (id_or_older w b.0 s a b.1)
pure_same w s t (inr a) (inl b) = absurd (id_or_older w a.0 t b a.1)
pure_same w s t (inr a) (inr b) = one_text Pure w s t a b

keys_same : (s : Spelling) (w : ℕ) (t u : List ℕ) → (IsKeyOf s w t → IsKeyOf s w u → t ≡ u) → IsFurtherKeyOf s w t ⊎ IsKeyOf s w t → IsFurtherKeyOf s w u ⊎ IsKeyOf s w u → t ≡ u
keys_same s w t u older_same (inl a) (inl b) = key_same s w t u a b
keys_same s w t u older_same (inl a) (inr b) = absurd (sets_apart b.0 a.0 w b.1 a.1)
keys_same s w t u older_same (inr a) (inl b) = absurd (sets_apart a.0 b.0 w a.1 b.1)
keys_same s w t u older_same (inr a) (inr b) = older_same a b

pub one_text_in_all : (form : Form) (w : ℕ) (s t : List ℕ) → IsFormInAll form w s → IsFormInAll form w t → s ≡ t
one_text_in_all Tag w s t a b = same_text_in w s t a b
one_text_in_all Pure w s t a b = pure_same w s t a b
one_text_in_all Element w s t a b = keys_same spelling.Element w s t (one_text Element w s t) a b
one_text_in_all Link w s t a b = keys_same spelling.Link w s t (one_text Link w s t) a b
one_text_in_all Hex w s t (inl a) b = absurd a
one_text_in_all Hex w s t (inr a) (inl b) = absurd b
one_text_in_all Hex w s t (inr a) (inr b) = one_text Hex w s t a b
one_text_in_all Key w s t a b = keys_same spelling.Named w s t (one_text Key w s t) a b

-- ---- one word

id_word : (filter : ℕ) (text : List ℕ) (v w : ℕ) → v < 2 ^ 96 → w < 2 ^ 96 → ReadsFurtherId filter text v → ReadsFurtherId filter text w → v ≡ w
id_word filter text v w p q (inl a) (inl b) =
    let same : a.0 ≡ b.0 = one_id_in a.0 b.0 a.1.lawful b.1.lawful (a.2 ∙ sym b.2) (sym a.3 ∙ b.3) in
    one_word b.0 v w p q (subst (λ (e : Numbers). HasWord e v) same a.1) b.1
id_word filter text v w p q (inl a) (inr b) = absurd (one_id_beginning text _ (a.0.scheme, _, a.3 ∙ id_in_is a.0) (record { begins = b.3 ∙ supplier_id_is b.0 }))
id_word filter text v w p q (inr a) (inl b) = absurd (one_id_beginning text _ (b.0.scheme, _, b.3 ∙ id_in_is b.0) (record { begins = a.3 ∙ supplier_id_is a.0 }))
id_word filter text v w p q (inr a) (inr b) =
    let same : a.0 ≡ b.0 = one_supplier_id_uri a.0 b.0 a.1.lawful b.1.lawful (a.2 ∙ sym b.2) (sym a.3 ∙ b.3) in
    one_supplier_word b.0 v w p q (subst (λ (e : Supplier). HasSupplierWord e v) same a.1) b.1

key_word : (s : Spelling) (filter : ℕ) (count : Option ℕ) (text : List ℕ) (v w : ℕ) → v < 2 ^ 96 → w < 2 ^ 96 → ReadsFurtherKey s filter count text v → ReadsFurtherKey s filter count text w → v ≡ w
key_word s filter None text v w p q a b = absurd a
key_word s filter (Some n) text v w p q a b =
    let same : a.0 ≡ b.0 = one_key_in s a.0 b.0 a.1.lawful b.1.lawful (a.2 ∙ sym b.2) (a.3 ∙ sym b.3) (sym a.4 ∙ b.4) in
    one_word b.0 v w p q (subst (λ (e : Numbers). HasWord e v) same a.1) b.1

pure_word : (filter : ℕ) (count : Option ℕ) (text : List ℕ) (v w : ℕ) → v < 2 ^ 96 → w < 2 ^ 96 → ReadsInAll Pure filter count text v → ReadsInAll Pure filter count text w → v ≡ w
pure_word filter count text v w p q (inl a) (inl b) = id_word filter text v w p q a b
pure_word filter count text v w p q (inl a) (inr b) = absurd (older_id b.0 text b.3 (id_begins filter text v a))
pure_word filter count text v w p q (inr a) (inl b) = absurd (older_id a.0 text a.3 (id_begins filter text w b))
pure_word filter count text v w p q (inr a) (inr b) = one_word_read Pure filter count text v w p q a b

keys_word : (s : Spelling) (filter : ℕ) (count : Option ℕ) (text : List ℕ) (v w : ℕ) → v < 2 ^ 96 → w < 2 ^ 96 → ReadsFurtherKey s filter count text v ⊎ ReadsKeyOf s filter count text v
    → ReadsFurtherKey s filter count text w ⊎ ReadsKeyOf s filter count text w → v ≡ w
keys_word s filter count text v w p q (inl a) (inl b) = key_word s filter count text v w p q a b
keys_word s filter count text v w p q (inl a) (inr b) = absurd (older_key s filter count text w b (key_begins s filter count text v a))
keys_word s filter count text v w p q (inr a) (inl b) = absurd (older_key s filter count text v a (key_begins s filter count text w b))
keys_word s filter count text v w p q (inr a) (inr b) = one_key_word s filter count text v w p q a b

pub one_word_in_all : (form : Form) (filter : ℕ) (count : Option ℕ) (text : List ℕ) (v w : ℕ) → v < 2 ^ 96 → w < 2 ^ 96 → ReadsInAll form filter count text v → ReadsInAll form filter count text w → v ≡ w
one_word_in_all Tag filter count text v w p q a b = words_apart_in v w text p q a b
one_word_in_all Pure filter count text v w p q a b = pure_word filter count text v w p q a b
one_word_in_all Element filter count text v w p q a b = keys_word spelling.Element filter count text v w p q a b
one_word_in_all Link filter count text v w p q a b = keys_word spelling.Link filter count text v w p q a b
one_word_in_all Hex filter count text v w p q (inl a) b = absurd a
one_word_in_all Hex filter count text v w p q (inr a) (inl b) = absurd b
one_word_in_all Hex filter count text v w p q (inr a) (inr b) = one_word_read Hex filter count text v w p q a b
one_word_in_all Key filter count text v w p q a b = keys_word spelling.Named filter count text v w p q a b

-- ---- no rule refuses a text that is read

id_fault : (filter : ℕ) (text : List ℕ) (w : ℕ) (f : AllFault) → ReadsFurtherId filter text w → RefusesFurtherId filter text f → ⊥
id_fault filter text w f (inl a) (inl r) = no_id_fault_in a.0 filter r.1 a.1.lawful a.2 (subst (λ (t : List ℕ). HasIdFaultIn filter t r.1) a.3 r.2)
id_fault filter text w f (inl a) (inr r) = one_id_beginning text r.0.0 (a.0.scheme, _, a.3 ∙ id_in_is a.0) r.0.1
id_fault filter text w f (inr a) (inl r) = one_id_beginning text _ r.0 (record { begins = a.3 ∙ supplier_id_is a.0 })
id_fault filter text w f (inr a) (inr r) = no_supplier_id_fault a.0 r.1 a.1.lawful (subst (λ (t : List ℕ). HasSupplierIdFault t r.1) a.3 r.2)

key_fault : (s : Spelling) (filter : ℕ) (count : Option ℕ) (text : List ℕ) (w : ℕ) (rule : FormFault) → ReadsFurtherKey s filter count text w → HasFurtherKeyFault s filter count text rule → ⊥
key_fault s filter None text w rule a h = a
key_fault s filter (Some n) text w (fault.Key f) a h = no_key_fault_in s a.0 filter n f a.1.lawful a.2 a.3 (subst (λ (t : List ℕ). HasKeyFaultIn s filter n t f) a.4 h)
key_fault s filter (Some n) text w fault.Hex a h = h
key_fault s filter (Some n) text w fault.Prefix a h = h
key_fault s filter (Some n) text w (fault.Tag f) a h = h

older_id_fault : (filter : ℕ) (count : Option ℕ) (text : List ℕ) (w : ℕ) (rule : FormFault) → ReadsAs Pure filter count text w → HasFaultIn Pure filter count text rule → ⊥
older_id_fault filter count text w (fault.Key f) a h = no_id_fault a.0 filter f a.1.lawful a.2 (subst (λ (t : List ℕ). HasIdFault filter t f) a.3 h)
older_id_fault filter count text w fault.Hex a h = h
older_id_fault filter count text w fault.Prefix a h = h
older_id_fault filter count text w (fault.Tag f) a h = h

older_key_fault : (s : Spelling) (filter : ℕ) (count : Option ℕ) (text : List ℕ) (w : ℕ) (rule : FormFault) → ReadsKeyOf s filter count text w → HasFaultAsKey s filter count text rule → ⊥
older_key_fault s filter None text w rule a h = a
older_key_fault s filter (Some n) text w (fault.Key f) a h = no_key_fault s a.0 filter n text f a.1.lawful a.2 a.3 a.4 h
older_key_fault s filter (Some n) text w fault.Hex a h = h
older_key_fault s filter (Some n) text w fault.Prefix a h = h
older_key_fault s filter (Some n) text w (fault.Tag f) a h = h

hex_fault : (filter : ℕ) (count : Option ℕ) (text : List ℕ) (w : ℕ) (rule : FormFault) → ReadsAs Hex filter count text w → HasFaultIn Hex filter count text rule → ⊥
hex_fault filter count text w fault.Hex a h = h w a
hex_fault filter count text w (fault.Key f) a h = h
hex_fault filter count text w fault.Prefix a h = h
hex_fault filter count text w (fault.Tag f) a h = h

pure_fault : (filter : ℕ) (count : Option ℕ) (text : List ℕ) (w : ℕ) (f : AllFault) → ReadsInAll Pure filter count text w → RefusesInAll Pure filter count text f → ⊥
pure_fault filter count text w f (inl a) (inl r) = id_fault filter text w f a r
pure_fault filter count text w f (inl a) (inr r) = r.0 (id_begins filter text w a)
pure_fault filter count text w f (inr a) (inl (inl r)) = older_id a.0 text a.3 (inl r.0)
pure_fault filter count text w f (inr a) (inl (inr r)) = older_id a.0 text a.3 (inr r.0)
pure_fault filter count text w f (inr a) (inr r) = older_id_fault filter count text w r.1 a r.2

keys_fault : (s : Spelling) (filter : ℕ) (count : Option ℕ) (text : List ℕ) (w : ℕ) (f : AllFault) → ReadsFurtherKey s filter count text w ⊎ ReadsKeyOf s filter count text w
    → RefusesFurtherKey s filter count text f ⊎ ((BeginsFurtherKey s text → ⊥) × (rule : FormFault) × HasFaultAsKey s filter count text rule × (f ≡ all.Form rule)) → ⊥
keys_fault s filter count text w f (inl a) (inl r) = key_fault s filter count text w r.1 a r.2
keys_fault s filter count text w f (inl a) (inr r) = r.0 (key_begins s filter count text w a)
keys_fault s filter count text w f (inr a) (inl r) = older_key s filter count text w a r.0
keys_fault s filter count text w f (inr a) (inr r) = older_key_fault s filter count text w r.1 a r.2

pub no_fault_in_forms : (form : Form) (filter : ℕ) (count : Option ℕ) (text : List ℕ) (w : ℕ) (f : AllFault) → w < 2 ^ 96 → ReadsInAll form filter count text w → RefusesInAll form filter count text f → ⊥
no_fault_in_forms Tag filter count text w f p a r = no_fault_in_all w text r.0 p a r.1
no_fault_in_forms Pure filter count text w f p a r = pure_fault filter count text w f a r
no_fault_in_forms Element filter count text w f p a r = keys_fault spelling.Element filter count text w f a r
no_fault_in_forms Link filter count text w f p a r = keys_fault spelling.Link filter count text w f a r
no_fault_in_forms Hex filter count text w f p (inl a) r = a
no_fault_in_forms Hex filter count text w f p (inr a) (inl r) = r
no_fault_in_forms Hex filter count text w f p (inr a) (inr r) = hex_fault filter count text w r.1 a r.2
no_fault_in_forms Key filter count text w f p a r = keys_fault spelling.Named filter count text w f a r
