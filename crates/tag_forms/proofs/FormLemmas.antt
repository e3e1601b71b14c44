-- Words by texts in a form, and the first rules that refuse texts.
use Rattle.std.proofs.Common.{◌≡◌, ℕ, ◌^◌, ◌<◌, List, Option, Some, None, refl, sym, ap, ◌∙◌, subst, inl}
use Rattle.std.specs.Prelude.{MatchOption, IfSome, IfNone}
use Rattle.tag_bits.specs.Digits.{word_digits}
use Rattle.tag_epc.specs.declared.kind.Kind.TheVariants.{Gid}
use Rattle.tag_epc.specs.declared.epc.Parts.{Parts}
use Rattle.tag_epc.specs.LawfulWord.{HasWord, kind_of_parts}
use Rattle.tag_epc.proofs.OneReading.{one_word, one_epc}
use Rattle.tag_uri.specs.Hexadecimal.{hexadecimal}
use Rattle.tag_uri.proofs.TextLaws.{words_apart, texts_same, one_fault}
use Rattle.tag_keys.specs.declared.spelling.Spelling.{Spelling}
use Rattle.tag_keys.specs.declared.spelling.Spelling.TheVariants as spelling
use Rattle.tag_keys.specs.PureIdentity.{id_uri, HasFilter}
use Rattle.tag_keys.specs.KeyText.{IsKeyText, HasCompanyDigits, key_form}
use Rattle.tag_keys.proofs.FormLemmas.{no_gid}
use Rattle.tag_keys.proofs.IdLaws.{one_id}
use Rattle.tag_keys.proofs.KeyLaws.{one_key, same_key_text}
use Rattle.tag_keys.proofs.OneFault.{one_id_fault, one_key_fault}
use Rattle.tag_forms.specs.declared.form.Form.{Form}
use Rattle.tag_forms.specs.declared.form.Form.TheVariants.{Tag, Pure, Element, Link, Hex, Key}
use Rattle.tag_forms.specs.declared.fault.FormFault.{FormFault}
use Rattle.tag_forms.specs.declared.fault.FormFault.TheVariants as fault
use Rattle.tag_forms.specs.Forms.{IsKeyOf, IsTextIn, ReadsKeyOf, ReadsAs}
use Rattle.tag_forms.specs.Faults.{HasFaultAsKey, HasFaultIn}
use Rattle.tag_forms.proofs.HexLemmas.{one_hex_word, digits_kept}

-- the EPC of a word
epc_of : (d e : Parts) (w : ℕ) → HasWord d w → HasWord e w → d ≡ e
epc_of d e w a b = one_epc d e (word_digits w) a b

-- ---- keys

no_key : (s : Spelling) (epc : Parts) (w : ℕ) (text : List ℕ) → HasWord epc w → kind_of_parts epc ≡ Gid → IsKeyOf s w text → ⊥
no_key s epc w text h gid k =
    let same = epc_of k.0 epc w k.1 h in
    let none = no_gid s in
    let kind = ap (key_form s) (ap kind_of_parts same ∙ gid) in
    let known = k.2.known in
    cc

pub key_or_none : {X : Type 0} (bytes : X → List ℕ) (s : Spelling) (w : ℕ) (epc : Parts) (r : Option X) → HasWord epc w → IfSome r (λ t. IsKeyText s epc (bytes t)) → IfNone r (kind_of_parts epc ≡ Gid)
    → MatchOption r ((text : List ℕ) → IsKeyOf s w text → ⊥) (λ t. IsKeyOf s w (bytes t))
key_or_none bytes s w epc (Some t) h some none = (epc, h, some)
key_or_none bytes s w epc None h some none = λ text k. no_key s epc w text h none k

one_key_text : (s : Spelling) (w : ℕ) (t u : List ℕ) → IsKeyOf s w t → IsKeyOf s w u → t ≡ u
one_key_text s w t u a b = same_key_text s b.0 t u (subst (λ (p : Parts). IsKeyText s p t) (epc_of a.0 b.0 w a.1 b.1) a.2) b.2

key_reads : (s : Spelling) (epc : Parts) (w filter count : ℕ) (text : List ℕ) → HasWord epc w → HasFilter filter epc → HasCompanyDigits count epc → IsKeyOf s w text → ReadsKeyOf s filter (Some count) text w
key_reads s epc w filter count text h f d k = (epc, h, f, d, subst (λ (p : Parts). IsKeyText s p text) (epc_of k.0 epc w k.1 h) k.2)

pub one_key_word : (s : Spelling) (filter : ℕ) (count : Option ℕ) (text : List ℕ) (v w : ℕ) → v < 2 ^ 96 → w < 2 ^ 96 → ReadsKeyOf s filter count text v → ReadsKeyOf s filter count text w → v ≡ w
one_key_word s filter None text v w p q a b = absurd a
one_key_word s filter (Some n) text v w p q a b =
    let same = one_key s a.0 b.0 filter n text a.1.lawful b.1.lawful a.2 b.2 a.3 b.3 a.4 b.4 in
    one_word b.0 v w p q (subst (λ (e : Parts). HasWord e v) same a.1) b.1

-- ---- pure identities

pub one_pure_word : (filter : ℕ) (text : List ℕ) (v w : ℕ) → v < 2 ^ 96 → w < 2 ^ 96 → ReadsAs Pure filter None text v → ReadsAs Pure filter None text w → v ≡ w
one_pure_word filter text v w p q a b =
    let same = one_id a.0 b.0 filter a.1.lawful b.1.lawful a.2 b.2 (sym a.3 ∙ b.3) in
    one_word b.0 v w p q (subst (λ (e : Parts). HasWord e v) same a.1) b.1

-- ---- laws

pub one_text : (form : Form) (w : ℕ) (s t : List ℕ) → IsTextIn form w s → IsTextIn form w t → s ≡ t
one_text Tag w s t a b = texts_same w s t a b
one_text Pure w s t a b = a.2 ∙ ap id_uri (epc_of a.0 b.0 w a.1 b.1) ∙ sym b.2
one_text Element w s t a b = one_key_text spelling.Element w s t a b
one_text Link w s t a b = one_key_text spelling.Link w s t a b
one_text Hex w s t a b = a ∙ sym b
one_text Key w s t a b = one_key_text spelling.Named w s t a b

pub text_reads : (form : Form) (epc : Parts) (w filter count : ℕ) (text : List ℕ) → w < 2 ^ 96 → HasWord epc w → HasFilter filter epc → HasCompanyDigits count epc → IsTextIn form w text → ReadsAs form filter (Some count) text w
text_reads Tag epc w filter count text p h f d k = k
text_reads Pure epc w filter count text p h f d k = (epc, h, f, k.2 ∙ ap id_uri (epc_of k.0 epc w k.1 h))
text_reads Element epc w filter count text p h f d k = key_reads spelling.Element epc w filter count text h f d k
text_reads Link epc w filter count text p h f d k = key_reads spelling.Link epc w filter count text h f d k
text_reads Hex epc w filter count text p h f d k = record { below = p; digits = hexadecimal 24 w; marked = inl k; are = digits_kept 24 w }
text_reads Key epc w filter count text p h f d k = key_reads spelling.Named epc w filter count text h f d k

pub one_word_read : (form : Form) (filter : ℕ) (count : Option ℕ) (text : List ℕ) (v w : ℕ) → v < 2 ^ 96 → w < 2 ^ 96 → ReadsAs form filter count text v → ReadsAs form filter count text w → v ≡ w
one_word_read Tag filter count text v w p q a b = words_apart v w text p q a b
one_word_read Pure filter count text v w p q a b = one_pure_word filter text v w p q a b
one_word_read Element filter count text v w p q a b = one_key_word spelling.Element filter count text v w p q a b
one_word_read Link filter count text v w p q a b = one_key_word spelling.Link filter count text v w p q a b
one_word_read Hex filter count text v w p q a b = one_hex_word text v w a b
one_word_read Key filter count text v w p q a b = one_key_word spelling.Named filter count text v w p q a b

-- ---- faults

key_fault : (s : Spelling) (filter : ℕ) (count : Option ℕ) (text : List ℕ) (f g : FormFault) → HasFaultAsKey s filter count text f → HasFaultAsKey s filter count text g → f ≡ g
key_fault s filter (Some n) text (fault.Key f) (fault.Key g) a b = ap fault.Key (one_key_fault s filter n text f g a b)
key_fault s filter (Some n) text (fault.Key f) _ a b = absurd b
key_fault s filter (Some n) text _ g a b = absurd a
key_fault s filter None text (fault.Key f) (fault.Key g) a b = ap fault.Key (one_key_fault s filter 7 text f g a b)
key_fault s filter None text (fault.Key f) fault.Prefix a b = absurd (b f a)
key_fault s filter None text fault.Prefix (fault.Key g) a b = absurd (a g b)
key_fault s filter None text fault.Prefix fault.Prefix a b = refl
key_fault s filter None text (fault.Key f) _ a b = absurd b
key_fault s filter None text fault.Prefix _ a b = absurd b
key_fault s filter None text _ g a b = absurd a

pub one_form_fault : (form : Form) (filter : ℕ) (count : Option ℕ) (text : List ℕ) (f g : FormFault) → HasFaultIn form filter count text f → HasFaultIn form filter count text g → f ≡ g
one_form_fault Tag filter count text (fault.Tag f) (fault.Tag g) a b = ap fault.Tag (one_fault text f g a b)
one_form_fault Tag filter count text (fault.Tag f) _ a b = absurd b
one_form_fault Tag filter count text _ g a b = absurd a
one_form_fault Pure filter count text (fault.Key f) (fault.Key g) a b = ap fault.Key (one_id_fault filter text f g a b)
one_form_fault Pure filter count text (fault.Key f) _ a b = absurd b
one_form_fault Pure filter count text _ g a b = absurd a
one_form_fault Hex filter count text fault.Hex fault.Hex a b = refl
one_form_fault Hex filter count text fault.Hex _ a b = absurd b
one_form_fault Hex filter count text _ g a b = absurd a
one_form_fault Element filter count text f g a b = key_fault spelling.Element filter count text f g a b
one_form_fault Link filter count text f g a b = key_fault spelling.Link filter count text f g a b
one_form_fault Key filter count text f g a b = key_fault spelling.Named filter count text f g a b
