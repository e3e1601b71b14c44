-- An EPC has one pure identity URI, and with a filter value a pure identity URI is one EPC's.
use Rattle.std.proofs.Common.{◌≡◌, ℕ, ◌<◌, ◌≤◌, Bool, true, not, List, [], ◌∷◌, ◌++◌, length, Option, Some, None, refl, sym, ap, ◌∙◌, subst, arith, inl, length-append, lit≤}
use Rattle.std.specs.Prelude.{◌==◌, sum}
use Rattle.std.specs.List.{list_all, find, join_with_byte}
use Rattle.std.proofs.lemmas.Bool.{and_parts}
use Rattle.std.proofs.lemmas.List.{append_cancel_left}
use Rattle.tag_epc.specs.declared.kind.Kind.{Kind}
use Rattle.tag_epc.specs.declared.kind.Kind.TheVariants.{Sgtin}
use Rattle.tag_epc.specs.declared.epc.Parts.{Parts}
use Rattle.tag_epc.specs.declared.epc.Parts.TheVariants.{Partitioned, General}
use Rattle.tag_epc.specs.Layout.{Layout, layout_of, scheme_name}
use Rattle.tag_epc.specs.Private.Layout.{every_kind}
use Rattle.tag_epc.specs.LawfulWord.{IsLawfulEpc, kind_of_parts}
use Rattle.tag_epc.proofs.OneReading.{has_word}
use Rattle.tag_uri.specs.Decimal.{padded}
use Rattle.tag_uri.specs.TagText.{tag_uri, tag_start, scheme_text, components_of, HasTagFault}
use Rattle.tag_uri.proofs.DecimalLemmas.{length-padded}
use Rattle.tag_uri.proofs.PrintLemmas.{at_row}
use Rattle.tag_uri.proofs.TextLaws.{one_scheme, one_uri, no_fault, uri_is, sound_of}
use Rattle.tag_uri.proofs.TextShape.{text_short}
use Rattle.tag_keys.specs.declared.fault.KeyFault.{KeyFault}
use Rattle.tag_keys.specs.declared.fault.KeyFault.TheVariants as key
use Rattle.tag_keys.specs.PureIdentity.{id_start, id_name, id_text, id_components, id_uri, HasFilter, with_filter}
use Rattle.tag_keys.specs.KeyFaults.{HasIdFault}
use Rattle.tag_keys.proofs.PieceLemmas.{at_seam}
use Rattle.tag_keys.proofs.KeyLaws.{padded_one}

pub id_is : (epc : Parts) → id_uri epc ≡ id_start ++ id_text (kind_of_parts epc) (join_with_byte 46 (id_components epc))
unfolding id_uri
id_is epc = refl

-- ---- the scheme's name

abbrev colonless : List ℕ → Bool
colonless x = list_all (λ c. not (c == 58)) x

name_colonless : (k : Kind) → colonless (id_name k) ≡ true
name_colonless Sgtin = refl
name_colonless _ = refl

no_colon_first : (c : ℕ) (cs : List ℕ) → colonless (c ∷ cs) ≡ true → c ≡ 58 → ⊥
no_colon_first c cs h e = let no : colonless (58 ∷ cs) ≡ true = rw e at h in cc

at_colon : (x y a b : List ℕ) → colonless x ≡ true → colonless y ≡ true → x ++ 58 ∷ a ≡ y ++ 58 ∷ b → (x ≡ y) × (a ≡ b)
at_colon [] [] a b h k e = (refl, cc)
at_colon [] (d ∷ ds) a b h k e = absurd (no_colon_first d ds k cc)
at_colon (c ∷ cs) [] a b h k e = absurd (no_colon_first c cs h cc)
at_colon (c ∷ cs) (d ∷ ds) a b h k e =
    let first : c ≡ d = cc in
    let tail : cs ++ 58 ∷ a ≡ ds ++ 58 ∷ b = cc in
    let ih = at_colon cs ds a b (and_parts _ _ h).1 (and_parts _ _ k).1 tail in
    (rw (first, ih.0) refl, ih.1)

-- a kind by the sum of its name's letters
kind_by : ℕ → Option Kind
kind_by n = find (λ k. sum (id_name k) == n) every_kind

told : (k : Kind) → kind_by (sum (id_name k)) ≡ Some k
unfolding kind_by
told Sgtin = refl
told _ = refl

one_kind : (j k : Kind) → id_name j ≡ id_name k → j ≡ k
one_kind j k e = let s : Some j ≡ Some k = sym (told j) ∙ ap (λ (x : List ℕ). kind_by (sum x)) e ∙ told k in cc

pub one_id_scheme : (j k : Kind) (a b : List ℕ) → id_text j a ≡ id_text k b → (j ≡ k) × (a ≡ b)
one_id_scheme j k a b e = let p = at_colon (id_name j) (id_name k) a b (name_colonless j) (name_colonless k) e in (one_kind j k p.0, p.1)

-- ---- the tag URI of the same components

abbrev pub tag_of : Kind → ℕ → List ℕ → List ℕ
tag_of kind filter rest = tag_start ++ scheme_text kind (with_filter (layout_of kind) filter rest)

joined_with : (f k c d r : ℕ) (more : List (List ℕ)) → join_with_byte 46 (padded 1 f ∷ padded k c ∷ padded d r ∷ more) ≡ padded 1 f ++ 46 ∷ join_with_byte 46 (padded k c ∷ padded d r ∷ more)
joined_with f k c d r more = refl

-- components by those of the pure identity
numbers_are : (epc : Parts) (filter : ℕ) → IsLawfulEpc epc → HasFilter filter epc → join_with_byte 46 (components_of epc) ≡ with_filter (layout_of (kind_of_parts epc)) filter (join_with_byte 46 (id_components epc))
numbers_are (Partitioned kind f k c r last) filter h e =
    let known : layout_of kind ≡ Some h.has.layout = h.has.scheme in
    rw (known, ← e) refl
numbers_are (General m o s) filter h e = refl

pub tag_is : (epc : Parts) (filter : ℕ) → IsLawfulEpc epc → HasFilter filter epc → tag_uri epc ≡ tag_of (kind_of_parts epc) filter (join_with_byte 46 (id_components epc))
tag_is epc filter h e = uri_is epc ∙ ap (λ (x : List ℕ). tag_start ++ scheme_text (kind_of_parts epc) x) (numbers_are epc filter h e)

pub one_id : (d e : Parts) (filter : ℕ) → IsLawfulEpc d → IsLawfulEpc e → HasFilter filter d → HasFilter filter e → id_uri d ≡ id_uri e → d ≡ e
one_id d e filter h i fd fe same =
    let p = one_id_scheme (kind_of_parts d) (kind_of_parts e) _ _ (append_cancel_left id_start _ _ (sym (id_is d) ∙ same ∙ id_is e)) in
    let tags : tag_of (kind_of_parts d) filter (join_with_byte 46 (id_components d)) ≡ tag_of (kind_of_parts e) filter (join_with_byte 46 (id_components e)) =
    ap (λ (k : Kind). tag_of k filter (join_with_byte 46 (id_components d))) p.0 ∙ ap (tag_of (kind_of_parts e) filter) p.1 in
    one_uri d e h i (tag_is d filter h fd ∙ tags ∙ sym (tag_is e filter i fe))

-- ---- no rule refuses it

name_short : (k : Kind) → length (id_name k) ≤ 5
name_short Sgtin = lit≤ tt
name_short _ = lit≤ tt

filter_adds : (o : Option Layout) (filter : ℕ) (rest : List ℕ) → length rest ≤ length (with_filter o filter rest)
filter_adds None filter rest = omega arith
filter_adds (Some l) filter rest = omega (arith, length-append (padded 1 filter) (46 ∷ rest))

tag_short : (epc : Parts) → IsLawfulEpc epc → length (tag_uri epc) ≤ 90
tag_short epc h = let w = has_word epc h in text_short w.0 (tag_uri epc) (inl (epc, w.2, refl))

pub id_short : (epc : Parts) (filter : ℕ) → IsLawfulEpc epc → HasFilter filter epc → length (id_uri epc) ≤ 96
id_short epc filter h e =
    let rest : List ℕ = join_with_byte 46 (id_components epc) in
    let kind : Kind = kind_of_parts epc in
    let numbers : List ℕ = with_filter (layout_of kind) filter rest in
    let tag : length (tag_uri epc) ≡ length (tag_of kind filter rest) = ap length (tag_is epc filter h e) in
    let a = length-append (scheme_name kind) (58 ∷ numbers) in
    let b = length-append (id_name kind) (58 ∷ rest) in
    let id : length (id_uri epc) ≡ length (id_start ++ id_text kind rest) = ap length (id_is epc) in
    omega (arith, tag_short epc h, tag, a, b, id, filter_adds (layout_of kind) filter rest, name_short kind)

pub no_id_fault : (epc : Parts) (filter : ℕ) (fault : KeyFault) → IsLawfulEpc epc → HasFilter filter epc → HasIdFault filter (id_uri epc) fault → ⊥
no_id_fault epc filter key.Long h e w = let s = id_short epc filter h e in omega (arith, s, w)
no_id_fault epc filter key.Start h e w = w.1 _ (id_is epc)
no_id_fault epc filter key.Scheme h e w = w.3 (kind_of_parts epc) _ (append_cancel_left id_start _ _ (sym w.2 ∙ id_is epc))
no_id_fault epc filter (key.Tag f) h e w =
    let r = w.2 in
    let p = one_id_scheme r.kind (kind_of_parts epc) _ _ (append_cancel_left id_start _ _ (sym r.named ∙ id_is epc)) in
    let tag : w.1 ≡ tag_uri epc = r.tagged ∙ ap (λ (k : Kind). tag_of k filter r.rest) p.0 ∙ ap (tag_of (kind_of_parts epc) filter) p.1 ∙ sym (tag_is epc filter h e) in
    no_fault epc f h (subst (λ (t : List ℕ). HasTagFault t f) tag w.3)
no_id_fault epc filter key.Length h e w = w
no_id_fault epc filter key.Digit h e w = w
no_id_fault epc filter (key.Check right) h e w = w
no_id_fault epc filter key.Serial h e w = w

-- ---- the EPC of a text

filter_first : (filter f : ℕ) (a b : List ℕ) → filter < 8 → f < 8 → padded 1 filter ++ 46 ∷ a ≡ padded 1 f ++ 46 ∷ b → (f ≡ filter) × (a ≡ b)
filter_first filter f a b p q e =
    let s = at_seam (padded 1 filter) (padded 1 f) (46 ∷ a) (46 ∷ b) e (length-padded 1 filter ∙ sym (length-padded 1 f)) in
    let rest = s.1 in
    (padded_one f filter q p (sym s.0), cc)

-- what is asked of the EPC holds
pub read_id : (filter : ℕ) (epc : Parts) (text : List ℕ) (kind : Kind) (rest : List ℕ) → IsLawfulEpc epc → filter < 8 → text ≡ id_start ++ id_text kind rest → tag_of kind filter rest ≡ tag_uri epc → (text ≡ id_uri epc) × HasFilter filter epc
read_id filter epc text kind rest h low named tag =
    let p = one_scheme kind (kind_of_parts epc) _ _ (append_cancel_left tag_start _ _ (tag ∙ uri_is epc)) in
    let q = numbers epc h (ap (λ (k : Kind). with_filter (layout_of k) filter rest) (sym p.0) ∙ p.1) in
    (named ∙ ap (λ (k : Kind). id_start ++ id_text k rest) p.0 ∙ ap (λ (x : List ℕ). id_start ++ id_text (kind_of_parts epc) x) q.0 ∙ sym (id_is epc), q.1)
  where
    numbers : (epc : Parts) → IsLawfulEpc epc → with_filter (layout_of (kind_of_parts epc)) filter rest ≡ join_with_byte 46 (components_of epc) → (rest ≡ join_with_byte 46 (id_components epc)) × HasFilter filter epc
    numbers (Partitioned k f n c r last) i e =
        let known : layout_of k ≡ Some i.has.layout = i.has.scheme in
        let a = at_row k i.has.layout f n c r last known (sound_of k i.has.layout known) i in
        let numbers_id : List ℕ = join_with_byte 46 (id_components (Partitioned k f n c r last)) in
        let there : padded 1 filter ++ 46 ∷ rest ≡ padded 1 f ++ 46 ∷ numbers_id =
        sym (ap (λ (o : Option Layout). with_filter o filter rest) known) ∙ (e ∙ numbers_are (Partitioned k f n c r last) f i refl) ∙ ap (λ (o : Option Layout). with_filter o f numbers_id) known in
        let b = filter_first filter f rest numbers_id low a.filter_fits there in
        (b.1, b.0)
    numbers (General m o s) i e = (e, tt)
