-- What the texts of the seven schemes and those of the further ones begin with: none with what another begins with.
use Rattle.std.proofs.Common.{◌≡◌, ℕ, Bool, true, false, List, [], ◌∷◌, ◌++◌, Option, Some, None, refl, sym, ◌∙◌, subst, inl, inr, append_assoc}
use Rattle.std.specs.Prelude.{◌==◌, ◌&&◌, ◌||◌, not, codes, option_map, unwrap_or}
use Rattle.std.proofs.lemmas.Bool.{eq-eqb}
use Rattle.std.proofs.lemmas.List.{append_cancel_left}
use Rattle.tag_epc.specs.declared.kind.Kind.{Kind}
use Rattle.tag_epc.specs.declared.kind.Kind.TheVariants.{Sgtin, Sscc, Sgln, Grai, Gdti, Gsrn, Gid}
use Rattle.tag_epc.specs.declared.epc.Parts.{Parts}
use Rattle.tag_epc.specs.LawfulWord.{kind_of_parts}
use Rattle.tag_epc.proofs.Soundness.{both}
use Rattle.tag_keys.specs.declared.spelling.Spelling.{Spelling}
use Rattle.tag_keys.specs.declared.spelling.Spelling.TheVariants as spelling
use Rattle.tag_keys.specs.KeyText.{KeyForm, key_form}
use Rattle.tag_keys.specs.PureIdentity.{id_name, id_start, id_text, id_uri}
use Rattle.tag_keys.proofs.IdLaws.{id_is}
use Rattle.tag_keys.proofs.KeyLaws.{epc_reads}
use Rattle.tag_schemes.specs.declared.scheme.Scheme.{Scheme}
use Rattle.tag_schemes.specs.declared.scheme.Scheme.TheVariants.{Giai, Gsrnp, Sgcn, Cpi}
use Rattle.tag_scheme_keys.specs.KeyText.{start_in}
use Rattle.tag_scheme_keys.specs.PureIdentity.{id_name_in, id_text_in}
use Rattle.tag_scheme_keys.specs.SupplierIdentity.{BeginsAsSupplierId}
use Rattle.tag_scheme_keys.proofs.IdLaws.{id_in_is}
use Rattle.tag_scheme_keys.proofs.KeyLaws.{key_in_is}
use Rattle.tag_scheme_keys.proofs.SupplierIds.{supplier_id_is}
use Rattle.tag_forms.specs.declared.form.Form.TheVariants.{Pure}
use Rattle.tag_forms.specs.Forms.{ReadsKeyOf}
use Rattle.tag_forms.specs.FurtherForms.{BeginsFurther, BeginsFurtherId, BeginsFurtherKey, ReadsFurtherId, ReadsFurtherKey}

-- whether two texts differ at a place that both have
abbrev differ : List ℕ → List ℕ → Bool
differ [] ys = false
differ (x ∷ xs) [] = false
differ (x ∷ xs) (y ∷ ys) = not (x == y) || differ xs ys

apart : (a b x y : List ℕ) → differ a b ≡ true → a ++ x ≡ b ++ y → ⊥
apart [] b x y d e = cc
apart (p ∷ a) [] x y d e = cc
apart (p ∷ a) (q ∷ b) x y d e =
    let heads : p ≡ q = cc in
    let tails : a ++ x ≡ b ++ y = cc in
    apart a b x y (subst (λ (t : Bool). (not t || differ a b) ≡ true) (eq-eqb p q heads) d) tails

-- a test of the seven schemes
abbrev of_kinds : (Kind → Bool) → Bool
of_kinds f = f Sgtin && (f Sscc && (f Sgln && (f Grai && (f Gdti && (f Gsrn && f Gid)))))

all_of : (a b c d e g i : Bool) → (a && (b && (c && (d && (e && (g && i)))))) ≡ true → (a ≡ true) × (b ≡ true) × (c ≡ true) × (d ≡ true) × (e ≡ true) × (g ≡ true) × (i ≡ true)
all_of a b c d e g i h =
    let p = both a (b && (c && (d && (e && (g && i))))) h in
    let q = both b (c && (d && (e && (g && i)))) p.1 in
    let r = both c (d && (e && (g && i))) q.1 in
    let s = both d (e && (g && i)) r.1 in
    let t = both e (g && i) s.1 in
    let u = both g i t.1 in
    (p.0, q.0, r.0, s.0, t.0, u.0, u.1)

every_kind : (f : Kind → Bool) → of_kinds f ≡ true → (k : Kind) → f k ≡ true
every_kind f h k = kind k
  where
    pass : (f Sgtin ≡ true) × (f Sscc ≡ true) × (f Sgln ≡ true) × (f Grai ≡ true) × (f Gdti ≡ true) × (f Gsrn ≡ true) × (f Gid ≡ true)
    pass = all_of (f Sgtin) (f Sscc) (f Sgln) (f Grai) (f Gdti) (f Gsrn) (f Gid) h

    kind : (k : Kind) → f k ≡ true
    kind Sgtin = pass.0
    kind Sscc = pass.1
    kind Sgln = pass.2
    kind Grai = pass.3
    kind Gdti = pass.4
    kind Gsrn = pass.5
    kind Gid = pass.6

-- ---- pure identities

-- names with their colons
abbrev older_name : Kind → List ℕ
older_name k = id_name k ++ 58 ∷ []

abbrev name_in : Scheme → List ℕ
name_in s = id_name_in s ++ 58 ∷ []

names_differ : (s : Scheme) → of_kinds (λ k. differ (older_name k) (name_in s)) ≡ true
names_differ Giai = refl
names_differ Gsrnp = refl
names_differ Sgcn = refl
names_differ Cpi = refl

supplier_differs : (s : Scheme) → differ (name_in s) (codes "usdod:") ≡ true
supplier_differs Giai = refl
supplier_differs Gsrnp = refl
supplier_differs Sgcn = refl
supplier_differs Cpi = refl

older_or_in : (k : Kind) (s : Scheme) (x y : List ℕ) → id_text k x ≡ id_text_in s y → ⊥
older_or_in k s x y e = apart (older_name k) (name_in s) x y (every_kind (λ (j : Kind). differ (older_name j) (name_in s)) (names_differ s) k) (append_assoc (id_name k) (58 ∷ []) x ∙ e ∙ sym (append_assoc (id_name_in s) (58 ∷ []) y))

older_or_supplier : (k : Kind) (x y : List ℕ) → id_text k x ≡ codes "usdod:" ++ y → ⊥
older_or_supplier k x y e = apart (older_name k) (codes "usdod:") x y (every_kind (λ (j : Kind). differ (older_name j) (codes "usdod:")) refl k) (append_assoc (id_name k) (58 ∷ []) x ∙ e)

in_or_supplier : (s : Scheme) (x y : List ℕ) → id_text_in s x ≡ codes "usdod:" ++ y → ⊥
in_or_supplier s x y e = apart (name_in s) (codes "usdod:") x y (supplier_differs s) (append_assoc (id_name_in s) (58 ∷ []) x ∙ e)

-- no text begins as both
pub one_id_beginning : (text rest : List ℕ) → BeginsFurtherId text → BeginsAsSupplierId text rest → ⊥
one_id_beginning text rest a b = in_or_supplier a.0 a.1 rest (append_cancel_left id_start _ _ (sym a.2 ∙ b.begins))

-- a pure identity of the seven schemes begins as no further one
pub older_id : (epc : Parts) (text : List ℕ) → text ≡ id_uri epc → BeginsFurther Pure text → ⊥
older_id epc text e (inl b) = older_or_in (kind_of_parts epc) b.0 _ b.1 (append_cancel_left id_start _ _ (sym (id_is epc) ∙ sym e ∙ b.2))
older_id epc text e (inr b) = older_or_supplier (kind_of_parts epc) _ b.0 (append_cancel_left id_start _ _ (sym (id_is epc) ∙ sym e ∙ b.1.begins))

pub id_begins : (filter : ℕ) (text : List ℕ) (w : ℕ) → ReadsFurtherId filter text w → BeginsFurther Pure text
id_begins filter text w (inl r) = inl (r.0.scheme, _, r.3 ∙ id_in_is r.0)
id_begins filter text w (inr r) = inr (_, record { begins = r.3 ∙ supplier_id_is r.0 })

-- ---- keys

abbrev start_differs : Spelling → Scheme → Kind → Bool
start_differs s scheme k = unwrap_or (option_map (λ (f : KeyForm). differ f.start (start_in s scheme)) (key_form s k)) true

starts_differ : (s : Spelling) (scheme : Scheme) → of_kinds (start_differs s scheme) ≡ true
starts_differ spelling.Element Giai = refl
starts_differ spelling.Element Gsrnp = refl
starts_differ spelling.Element Sgcn = refl
starts_differ spelling.Element Cpi = refl
starts_differ spelling.Link Giai = refl
starts_differ spelling.Link Gsrnp = refl
starts_differ spelling.Link Sgcn = refl
starts_differ spelling.Link Cpi = refl
starts_differ spelling.Named Giai = refl
starts_differ spelling.Named Gsrnp = refl
starts_differ spelling.Named Sgcn = refl
starts_differ spelling.Named Cpi = refl

older_start_or_in : (s : Spelling) (k : Kind) (scheme : Scheme) (form : KeyForm) (x y : List ℕ) → key_form s k ≡ Some form → form.start ++ x ≡ start_in s scheme ++ y → ⊥
older_start_or_in s k scheme form x y known e =
    let test : start_differs s scheme k ≡ true = every_kind (start_differs s scheme) (starts_differ s scheme) k in
    apart form.start (start_in s scheme) x y (subst (λ (o : Option KeyForm). unwrap_or (option_map (λ (f : KeyForm). differ f.start (start_in s scheme)) o) true ≡ true) known test) e

-- a key of the seven schemes begins as none of a further one
pub older_key : (s : Spelling) (filter : ℕ) (count : Option ℕ) (text : List ℕ) (w : ℕ) → ReadsKeyOf s filter count text w → BeginsFurtherKey s text → ⊥
older_key s filter None text w r b = r
older_key s filter (Some n) text w r b =
    let p = epc_reads s filter n r.0 text r.1.lawful r.2 r.3 r.4 in
    older_start_or_in s (kind_of_parts r.0) b.0 p.reads.form _ b.1 p.reads.known (sym p.reads.written ∙ b.2.begins)

pub key_begins : (s : Spelling) (filter : ℕ) (count : Option ℕ) (text : List ℕ) (w : ℕ) → ReadsFurtherKey s filter count text w → BeginsFurtherKey s text
key_begins s filter None text w r = absurd r
key_begins s filter (Some n) text w r = (r.0.scheme, _, record { begins = r.4 ∙ key_in_is s r.0 })
