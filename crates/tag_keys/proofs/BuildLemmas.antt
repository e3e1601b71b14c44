-- Texts that are put together from pieces.
use Rattle.std.proofs.Common.{◌≡◌, ℕ, ◌+◌, ◌/◌, ◌%◌, ◌^◌, ◌<◌, List, [], ◌∷◌, ◌++◌, drop, refl, sym, ap, ◌∙◌, arith, append_assoc}
use Rattle.std.specs.List.{join_with_byte}
use Rattle.std.proofs.lemmas.List.{append_cancel_left}
use Rattle.tag_epc.specs.declared.kind.Kind.{Kind}
use Rattle.tag_epc.specs.declared.kind.Kind.TheVariants.{Gid}
use Rattle.tag_epc.specs.declared.epc.Parts.{Parts}
use Rattle.tag_epc.specs.declared.epc.Parts.TheVariants.{Partitioned, General}
use Rattle.tag_epc.specs.Layout.{layout_of, scheme_name}
use Rattle.tag_epc.specs.LawfulWord.{IsLawfulEpc, kind_of_parts}
use Rattle.tag_uri.specs.Decimal.{padded}
use Rattle.tag_uri.specs.TagText.{tag_uri, tag_start, scheme_text, components, components_of}
use Rattle.tag_uri.proofs.ComponentLemmas.{joined}
use Rattle.tag_uri.proofs.TextLaws.{written, one_scheme, uri_is}
use Rattle.tag_keys.specs.PureIdentity.{id_start, id_name, id_text, id_components, id_uri, with_filter}
use Rattle.tag_keys.specs.KeyFaults.{tag_with}
use Rattle.tag_keys.proofs.KeyLaws.{again}
use Rattle.tag_keys.proofs.IdLaws.{id_is}

one_digit : (f : ℕ) → f < 8 → padded 1 f ≡ (48 + f) ∷ []
unfolding padded
one_digit f h = let d : 48 + f / 10 ^ 0 % 10 ≡ 48 + f = omega arith in rw d refl

-- ---- tag URIs

module _ (kind : Kind) (f : ℕ) (t0 t1 : List ℕ) (low : f < 8) (e0 : t0 ≡ tag_start ++ (scheme_name kind ++ 58 ∷ [])) (e1 : t1 ≡ t0 ++ (48 + f) ∷ 46 ∷ []) where
  begun : t1 ≡ tag_start ++ (scheme_name kind ++ 58 ∷ (padded 1 f ++ 46 ∷ []))
  begun = let d = one_digit f low in rw (e1, e0, d) (simp append_assoc refl)

  pub tag_id : (t2 rest : List ℕ) → t2 ≡ t1 ++ rest → t2 ≡ tag_start ++ (scheme_name kind ++ 58 ∷ (padded 1 f ++ 46 ∷ rest))
  tag_id t2 rest e2 = rw (e2, begun) (simp append_assoc refl)

  pub tag_key : (t2 t3 t4 t5 c l r : List ℕ) → t2 ≡ t1 ++ c → t3 ≡ t2 ++ 46 ∷ [] → t4 ≡ t3 ++ l → t5 ≡ t4 ++ r → t5 ≡ tag_with kind f c (l ++ r) []
  tag_key t2 t3 t4 t5 c l r e2 e3 e4 e5 = rw (e5, e4, e3, e2, begun) (simp append_assoc refl)

  pub tag_key_serial : (t2 t3 t4 t5 t6 t7 c l r s : List ℕ) → t2 ≡ t1 ++ c → t3 ≡ t2 ++ 46 ∷ [] → t4 ≡ t3 ++ l → t5 ≡ t4 ++ r → t6 ≡ t5 ++ 46 ∷ [] → t7 ≡ t6 ++ s → t7 ≡ tag_with kind f c (l ++ r) (s ∷ [])
  tag_key_serial t2 t3 t4 t5 t6 t7 c l r s e2 e3 e4 e5 e6 e7 = rw (e7, e6, e5, e4, e3, e2, begun) (simp append_assoc refl)

pub filter_put : (kind : Kind) (f : ℕ) (rest : List ℕ) → (kind ≡ Gid → ⊥) → with_filter (layout_of kind) f rest ≡ padded 1 f ++ 46 ∷ rest
filter_put Gid f rest h = absurd (h refl)
filter_put _ f rest h = refl

pub no_filter : (kind : Kind) (f : ℕ) (t0 t1 rest : List ℕ) → kind ≡ Gid → t0 ≡ tag_start ++ (scheme_name kind ++ 58 ∷ []) → t1 ≡ t0 ++ rest → t1 ≡ tag_start ++ scheme_text kind (with_filter (layout_of kind) f rest)
no_filter kind f t0 t1 rest g e0 e1 =
    let plain : with_filter (layout_of kind) f rest ≡ rest = ap (λ (k : Kind). with_filter (layout_of k) f rest) g in
    let there : t1 ≡ tag_start ++ (scheme_name kind ++ 58 ∷ rest) = rw (e1, e0) (simp append_assoc refl) in
    there ∙ ap (λ (x : List ℕ). tag_start ++ scheme_text kind x) (sym plain)

-- ---- the components of a tag URI

pub named : (epc : Parts) (kind : Kind) (tag : List ℕ) → kind ≡ kind_of_parts epc → tag ≡ tag_uri epc → tag ≡ tag_start ++ scheme_text kind (join_with_byte 46 (components_of epc))
named epc kind tag k t = t ∙ uri_is epc ∙ ap (λ (j : Kind). tag_start ++ scheme_text j (join_with_byte 46 (components_of epc))) (sym k)

pub numbers_again : (epc : Parts) (kind : Kind) (tag numbers : List ℕ) → IsLawfulEpc epc → tag ≡ tag_uri epc → tag ≡ tag_start ++ scheme_text kind numbers → components numbers ≡ components_of epc
numbers_again epc kind tag numbers h t w =
    let p = one_scheme kind (kind_of_parts epc) _ _ (append_cancel_left tag_start _ _ (sym w ∙ t ∙ uri_is epc)) in
    let d = written epc h in
    ap components p.1 ∙ again (components_of epc) d.digits d.some

-- ---- pure identity URIs

pub others_joined : (epc : Parts) (kind : Kind) (f k c r last : ℕ) (first numbers rest : List ℕ) → epc ≡ Partitioned kind f k c r last → components numbers ≡ components_of epc → components numbers ≡ first ∷ components rest → rest ≡ join_with_byte 46 (id_components epc)
others_joined epc kind f k c r last first numbers rest e h w =
    let here : components_of (Partitioned kind f k c r last) ≡ first ∷ components rest = ap components_of (sym e) ∙ sym h ∙ w in
    sym (joined rest) ∙ ap (λ (cs : List (List ℕ)). join_with_byte 46 (drop 1 cs)) (sym here) ∙ ap (λ (x : Parts). join_with_byte 46 (id_components x)) (sym e)

pub all_joined : (epc : Parts) (m o s : ℕ) (numbers : List ℕ) → epc ≡ General m o s → components numbers ≡ components_of epc → numbers ≡ join_with_byte 46 (id_components epc)
all_joined epc m o s numbers e h = sym (joined numbers) ∙ ap (join_with_byte 46) (h ∙ ap components_of e) ∙ ap (λ (x : Parts). join_with_byte 46 (id_components x)) (sym e)

pub id_written : (epc : Parts) (kind : Kind) (t0 t1 t2 t3 t4 name rest : List ℕ) → t0 ≡ [] → t1 ≡ t0 ++ id_start → t2 ≡ t1 ++ name → t3 ≡ t2 ++ 58 ∷ [] → t4 ≡ t3 ++ rest → name ≡ id_name kind → kind ≡ kind_of_parts epc → rest ≡ join_with_byte 46 (id_components epc) → t4 ≡ id_uri epc
id_written epc kind t0 t1 t2 t3 t4 name rest e0 e1 e2 e3 e4 n k r =
    let there : t4 ≡ id_start ++ (name ++ 58 ∷ rest) = rw (e4, e3, e2, e1, e0) (simp append_assoc refl) in
    there ∙ ap (λ (x : List ℕ). id_start ++ (x ++ 58 ∷ rest)) (n ∙ ap id_name k) ∙ ap (λ (x : List ℕ). id_start ++ id_text (kind_of_parts epc) x) r ∙ sym (id_is epc)

-- ---- digits for a check digit

pub digits_joined : (d0 d1 d2 d3 d4 l c r : List ℕ) → d0 ≡ [] → d1 ≡ d0 ++ l → d2 ≡ d1 ++ c → d3 ≡ d2 ++ r → d4 ≡ d3 ++ 48 ∷ [] → d4 ≡ (l ++ (c ++ r)) ++ 48 ∷ []
digits_joined d0 d1 d2 d3 d4 l c r e0 e1 e2 e3 e4 = rw (e4, e3, e2, e1, e0) (simp append_assoc refl)
