-- One rule at most is the first that refuses a text.
use Rattle.std.proofs.Common.{◌≡◌, ℕ, ◌<◌, ◌≤◌, List, [], ◌∷◌, ◌++◌, length, refl, sym, ap, ◌∙◌, subst, arith}
use Rattle.std.proofs.lemmas.List.{append_cancel_left}
use Rattle.tag_uri.specs.declared.fault.UriFault.{UriFault}
use Rattle.tag_uri.specs.TagText.{components}
use Rattle.tag_uri.proofs.TextLaws.{one_tag_fault}
use Rattle.tag_schemes.specs.declared.scheme.Scheme.{Scheme}
use Rattle.tag_schemes.specs.declared.scheme.Scheme.TheVariants.{Giai, Gsrnp, Sgcn, Cpi}
use Rattle.tag_schemes.specs.Texts.{HasCouponFault, HasFaultIn}
use Rattle.tag_keys.specs.declared.fault.KeyFault.{KeyFault}
use Rattle.tag_keys.specs.declared.fault.KeyFault.TheVariants as key
use Rattle.tag_keys.specs.PureIdentity.{id_start}
use Rattle.tag_keys.proofs.FormLemmas.{same_some}
use Rattle.tag_scheme_keys.specs.PureIdentity.{id_text_in}
use Rattle.tag_scheme_keys.specs.KeyFaults.{with_filter_in, HasIdFaultIn}
use Rattle.tag_scheme_keys.proofs.IdLaws.{one_id_text}

-- ---- the components of a tag URI

one_coupon : (cs : List (List ℕ)) (f g : UriFault) → HasCouponFault cs f → HasCouponFault cs g → f ≡ g
one_coupon [] f g a b = a ∙ sym b
one_coupon (x ∷ []) f g a b = a ∙ sym b
one_coupon (x ∷ y ∷ []) f g a b = a ∙ sym b
one_coupon (x ∷ y ∷ z ∷ []) f g a b = a ∙ sym b
one_coupon (x ∷ y ∷ z ∷ w ∷ []) f g a b = one_tag_fault _ f g a b
one_coupon (x ∷ y ∷ z ∷ w ∷ v ∷ more) f g a b = a ∙ sym b

pub one_fault_with : (s : Scheme) (rest : List ℕ) (f g : UriFault) → HasFaultIn s rest f → HasFaultIn s rest g → f ≡ g
one_fault_with Giai rest f g a b = same_some f g (sym a ∙ b)
one_fault_with Gsrnp rest f g a b = one_tag_fault _ f g a b
one_fault_with Sgcn rest f g a b = one_coupon (components rest) f g a b
one_fault_with Cpi rest f g a b = same_some f g (sym a ∙ b)

-- ---- pure identity URIs

module _ (filter : ℕ) (text : List ℕ) where
  data ToldId (f : KeyFault) : Type 0 where
    long_id : f ≡ key.Long → 72 < length text → ToldId f
    start_id : f ≡ key.Start → length text ≤ 72 → ((rest : List ℕ) → text ≡ id_start ++ rest → ⊥) → ToldId f
    scheme_id : f ≡ key.Scheme → length text ≤ 72 → (rest : List ℕ) → text ≡ id_start ++ rest → ((s : Scheme) (more : List ℕ) → rest ≡ id_text_in s more → ⊥) → ToldId f
    tag_id : (u : UriFault) → f ≡ key.Tag u → length text ≤ 72 → (s : Scheme) (rest : List ℕ) → text ≡ id_start ++ id_text_in s rest → HasFaultIn s (with_filter_in filter rest) u → ToldId f

  told_id : (f : KeyFault) → HasIdFaultIn filter text f → ToldId f
  told_id key.Long h = long_id refl h
  told_id key.Start h = start_id refl h.0 h.1
  told_id key.Scheme h = scheme_id refl h.0 h.1 h.2 h.3
  told_id (key.Tag u) h = tag_id u refl h.0 h.1 h.2 h.3 h.4
  told_id key.Length h = absurd h
  told_id key.Digit h = absurd h
  told_id (key.Check right) h = absurd h
  told_id key.Serial h = absurd h

  long_short : 72 < length text → length text ≤ 72 → ⊥
  long_short a b = omega (arith, a, b)

  named_scheme : (rest more : List ℕ) (s : Scheme) → text ≡ id_start ++ rest → ((s : Scheme) (more : List ℕ) → rest ≡ id_text_in s more → ⊥) → text ≡ id_start ++ id_text_in s more → ⊥
  named_scheme rest more s e h n = h s more (append_cancel_left id_start _ _ (sym e ∙ n))

  same_tag : (s t : Scheme) (x y : List ℕ) (u v : UriFault) → text ≡ id_start ++ id_text_in s x → text ≡ id_start ++ id_text_in t y → HasFaultIn s (with_filter_in filter x) u → HasFaultIn t (with_filter_in filter y) v → u ≡ v
  same_tag s t x y u v a b h k =
      let p = one_id_text s t x y (append_cancel_left id_start _ _ (sym a ∙ b)) in
      one_fault_with t (with_filter_in filter y) u v (subst (λ (z : Scheme). HasFaultIn z (with_filter_in filter y) u) p.0 (subst (λ (r : List ℕ). HasFaultIn s (with_filter_in filter r) u) p.1 h)) k

  one_told_id : (f g : KeyFault) → ToldId f → ToldId g → f ≡ g
  one_told_id f g (long_id ae ax) (long_id be bx) = ae ∙ sym be
  one_told_id f g (long_id ae ax) (start_id be bl bx) = absurd (long_short ax bl)
  one_told_id f g (long_id ae ax) (scheme_id be bl br bn bx) = absurd (long_short ax bl)
  one_told_id f g (long_id ae ax) (tag_id bu be bl bs br bn bx) = absurd (long_short ax bl)
  one_told_id f g (start_id ae al ax) (long_id be bx) = absurd (long_short bx al)
  one_told_id f g (start_id ae al ax) (start_id be bl bx) = ae ∙ sym be
  one_told_id f g (start_id ae al ax) (scheme_id be bl br bn bx) = absurd (ax br bn)
  one_told_id f g (start_id ae al ax) (tag_id bu be bl bs br bn bx) = absurd (ax _ bn)
  one_told_id f g (scheme_id ae al ar an ax) (long_id be bx) = absurd (long_short bx al)
  one_told_id f g (scheme_id ae al ar an ax) (start_id be bl bx) = absurd (bx ar an)
  one_told_id f g (scheme_id ae al ar an ax) (scheme_id be bl br bn bx) = ae ∙ sym be
  one_told_id f g (scheme_id ae al ar an ax) (tag_id bu be bl bs br bn bx) = absurd (named_scheme ar br bs an ax bn)
  one_told_id f g (tag_id au ae al at ar an ax) (long_id be bx) = absurd (long_short bx al)
  one_told_id f g (tag_id au ae al at ar an ax) (start_id be bl bx) = absurd (bx _ an)
  one_told_id f g (tag_id au ae al at ar an ax) (scheme_id be bl br bn bx) = absurd (named_scheme br ar at bn bx an)
  one_told_id f g (tag_id au ae al at ar an ax) (tag_id bu be bl bs br bn bx) = ae ∙ ap key.Tag (same_tag at bs ar br au bu an bn ax bx) ∙ sym be

  pub one_id_fault_in : (f g : KeyFault) → HasIdFaultIn filter text f → HasIdFaultIn filter text g → f ≡ g
  one_id_fault_in f g a b = one_told_id f g (told_id f a) (told_id g b)
