-- Leading fields with the reserved ones, and the values of the plain ones.
use Rattle.std.proofs.Common.{◌≡◌, ℕ, zero, suc, ◌<◌, ◌^◌, List, [], ◌∷◌, ◌++◌, Bool, true, false, cond, refl, sym, ap, ◌∙◌, subst, arith, length, drop, append_assoc, length-append}
use Rattle.std.specs.Prelude.{nat_le, if◌then◌else◌, ◌==◌, filter, not}
use Rattle.std.proofs.lemmas.Bool.{le-leb, leb-true, eqb-true}
use Rattle.std.proofs.lemmas.List.{append-nil}
use Rattle.std.proofs.lemmas.List.Sums.{sum_by-cons}
use Rattle.tag_bits.specs.Digits.{digits}
use Rattle.tag_bits.proofs.DigitLemmas.{length-digits}
use Rattle.llrp_schema.specs.Schema.{FieldRule, bits_of}
use Rattle.llrp_tree.specs.Lawful.{AreInRange, first, others}
use Rattle.llrp_tree.specs.Spelling.{spread, field_digits}
use Rattle.llrp_tree.specs.OpenTree.{in_range, AreLeading, plain_values}

abbrev pub plain : List FieldRule → List FieldRule
plain rules = filter (λ field. not field.reserved) rules

-- each rule of the list is one that the tables may have
abbrev pub AreRules : List FieldRule → Type 0
AreRules [] = Unit {0}
AreRules (r ∷ rules) = (0 < r.width) × (r.greatest < 2 ^ r.width) × AreRules rules

spread_reserved : (r : FieldRule) (rules : List FieldRule) (ws : List ℕ) → r.reserved ≡ true → spread (r ∷ rules) ws ≡ 0 ∷ spread rules ws
spread_reserved r rules ws e = rw e refl

pub length-spread : (rules : List FieldRule) (ws : List ℕ) → length (spread rules ws) ≡ length rules
length-spread [] ws = refl
length-spread (r ∷ rules) ws =
    elim r.reserved as (λ b. length (if b then 0 ∷ spread rules ws else first ws ∷ spread rules (others ws)) ≡ suc (length rules))
    [ true ↦ ap suc (length-spread rules ws) | false ↦ ap suc (length-spread rules (others ws)) ]

-- all fields of a kind are as many digits as their widths say
pub length-fields : (rules : List FieldRule) (vs : List ℕ) → length vs ≡ length rules → length (field_digits rules vs) ≡ bits_of rules
length-fields [] [] e = refl
length-fields [] (v ∷ vs) e = absurd (omega (arith, e))
length-fields (r ∷ rules) [] e = absurd (omega (arith, e))
length-fields (r ∷ rules) (v ∷ vs) e =
    let a = length-append (digits r.width v) (field_digits rules vs) in
    let b = length-digits r.width v in
    let c = length-fields rules vs (omega (arith, e)) in
    let d = sum_by-cons (λ (x : FieldRule). x.width) r rules in
    omega (arith, a, b, c, d)

-- leading values of all fields are their plain values, spread
pub spread-plain : (rules : List FieldRule) (vs : List ℕ) → AreLeading rules vs → drop (length vs) rules ≡ [] → spread rules (plain_values rules vs) ≡ vs
spread-plain [] [] h e = refl
spread-plain [] (v ∷ vs) h e = absurd h
spread-plain (r ∷ rules) [] h e = absurd cc
spread-plain (r ∷ rules) (v ∷ vs) h e =
    let ih = spread-plain rules vs h.2 e in
    let M : Bool → Type 0 = λ b. r.reserved ≡ b → (if b then v == 0 else nat_le v r.greatest) ≡ true → spread (r ∷ rules) (if b then plain_values rules vs else v ∷ plain_values rules vs) ≡ v ∷ vs in
    (elim r.reserved as M [
      | true ↦ λ f g. spread_reserved r rules (plain_values rules vs) f ∙ (let z = eqb-true v 0 g in rw (z, ih) refl)
      | false ↦ λ f g. rw (f, ih) refl
    ]) refl h.1

-- plain values, spread, are leading values
pub leading_spread : (rules : List FieldRule) (ws : List ℕ) → AreRules rules → AreInRange (plain rules) ws → AreLeading rules (spread rules ws)
leading_spread [] ws t h = tt
leading_spread (r ∷ rules) [] t h =
    (elim r.reserved as (λ b. r.reserved ≡ b → AreInRange (cond (not b) (r ∷ plain rules) (plain rules)) [] → AreLeading (r ∷ rules) (if b then 0 ∷ spread rules [] else 0 ∷ spread rules []))
    [ true ↦ λ f g. (omega (arith, t.1), (rw f refl), leading_spread rules [] t.2 g) | false ↦ λ f g. absurd g ]) refl h
leading_spread (r ∷ rules) (w ∷ ws) t h =
    (elim r.reserved as (λ b. r.reserved ≡ b → AreInRange (cond (not b) (r ∷ plain rules) (plain rules)) (w ∷ ws) → AreLeading (r ∷ rules) (if b then 0 ∷ spread rules (w ∷ ws) else w ∷ spread rules ws)) [
      | true ↦ λ f g. (omega (arith, t.1), (rw f refl), leading_spread rules (w ∷ ws) t.2 g)
      | false ↦ λ f g. (omega (arith, t.1, g.0), (rw f (le-leb w r.greatest g.0)), leading_spread rules ws t.2 g.1)
    ]) refl h

pub plain-spread : (rules : List FieldRule) (ws : List ℕ) → AreInRange (plain rules) ws → plain_values rules (spread rules ws) ≡ ws
plain-spread [] [] h = refl
plain-spread [] (w ∷ ws) h = absurd h
plain-spread (r ∷ rules) [] h =
    (elim r.reserved as (λ b. r.reserved ≡ b → AreInRange (cond (not b) (r ∷ plain rules) (plain rules)) [] → plain_values (r ∷ rules) (if b then 0 ∷ spread rules [] else 0 ∷ spread rules []) ≡ [])
    [ true ↦ λ f g. rw f (plain-spread rules [] g) | false ↦ λ f g. absurd g ]) refl h
plain-spread (r ∷ rules) (w ∷ ws) h =
    (elim r.reserved as (λ b. r.reserved ≡ b → AreInRange (cond (not b) (r ∷ plain rules) (plain rules)) (w ∷ ws) → plain_values (r ∷ rules) (if b then 0 ∷ spread rules (w ∷ ws) else w ∷ spread rules ws) ≡ w ∷ ws) [
      | true ↦ λ f g. rw f (plain-spread rules (w ∷ ws) g)
      | false ↦ λ f g. rw f (ap (λ (x : List ℕ). w ∷ x) (plain-spread rules ws g.1))
    ]) refl h

-- the plain values of all fields are in their ranges
pub plain_in_range : (rules : List FieldRule) (vs : List ℕ) → AreLeading rules vs → drop (length vs) rules ≡ [] → AreInRange (plain rules) (plain_values rules vs)
plain_in_range [] [] h e = tt
plain_in_range [] (v ∷ vs) h e = absurd h
plain_in_range (r ∷ rules) [] h e = absurd cc
plain_in_range (r ∷ rules) (v ∷ vs) h e =
    let ih = plain_in_range rules vs h.2 e in
    (elim r.reserved as (λ b. (if b then v == 0 else nat_le v r.greatest) ≡ true → AreInRange (cond (not b) (r ∷ plain rules) (plain rules)) (if b then plain_values rules vs else v ∷ plain_values rules vs))
    [ true ↦ λ g. ih | false ↦ λ g. (leb-true v r.greatest g, ih) ]) h.1

-- one more leading field
pub more_leading : (rules : List FieldRule) (vs : List ℕ) (r : FieldRule) (after : List FieldRule) (v : ℕ) → drop (length vs) rules ≡ r ∷ after → AreLeading rules vs → v < 2 ^ r.width → in_range r v ≡ true
    → AreLeading rules (vs ++ v ∷ []) × (field_digits rules (vs ++ v ∷ []) ≡ field_digits rules vs ++ digits r.width v)
more_leading [] [] r after v e h lt fit = absurd cc
more_leading [] (u ∷ us) r after v e h lt fit = absurd h
more_leading (q ∷ rules) [] r after v e h lt fit =
    let same : q ≡ r = cc in
    (subst (λ (x : FieldRule). (v < 2 ^ x.width) × (in_range x v ≡ true) × Unit {0}) (sym same) (lt, fit, tt), subst (λ (x : FieldRule). digits q.width v ++ [] ≡ digits x.width v) same (append-nil (digits q.width v)))
more_leading (q ∷ rules) (u ∷ us) r after v e h lt fit =
    let m = more_leading rules us r after v e h.2 lt fit in
    ((h.0, h.1, m.0), rw (m.1) (sym (append_assoc (digits q.width u) (field_digits rules us) (digits r.width v))))

-- the last of the leading fields
pub record LastField (rules : List FieldRule) (init : List ℕ) (v : ℕ) : Type 0 where
  pub rule : FieldRule
  pub after : List FieldRule
  pub at : drop (length init) rules ≡ rule ∷ after
  pub leading : AreLeading rules init
  pub below : v < 2 ^ rule.width
  pub fit : in_range rule v ≡ true
  pub spelled : field_digits rules (init ++ v ∷ []) ≡ field_digits rules init ++ digits rule.width v

pub last_field : (rules : List FieldRule) (init : List ℕ) (v : ℕ) → AreLeading rules (init ++ v ∷ []) → LastField rules init v
last_field [] [] v h = absurd h
last_field [] (u ∷ us) v h = absurd h
last_field (r ∷ rules) [] v h = record { rule = r; after = rules; at = refl; leading = tt; below = h.0; fit = h.1; spelled = append-nil (digits r.width v) }
last_field (r ∷ rules) (u ∷ us) v h =
    let l = last_field rules us v h.2 in
    record {
      rule = l.rule;
      after = l.after;
      at = l.at;
      leading = (h.0, h.1, l.leading);
      below = l.below;
      fit = l.fit;
      spelled = rw (l.spelled) (sym (append_assoc (digits r.width u) (field_digits rules us) (digits l.rule.width v)));
    }

-- all fields are read where none is left
pub drop_all : {A : Type 0} (xs : List A) (n : ℕ) → n ≡ length xs → drop n xs ≡ []
drop_all [] zero e = refl
drop_all [] (suc n) e = refl
drop_all (x ∷ xs) zero e = absurd (omega arith)
drop_all (x ∷ xs) (suc n) e = drop_all xs n (omega arith)

pub leading_length : (rules : List FieldRule) (vs : List ℕ) → AreLeading rules vs → drop (length vs) rules ≡ [] → length vs ≡ length rules
leading_length [] [] h e = refl
leading_length [] (v ∷ vs) h e = absurd h
leading_length (r ∷ rules) [] h e = absurd cc
leading_length (r ∷ rules) (v ∷ vs) h e = ap suc (leading_length rules vs h.2 e)

pub wide_at : (rules : List FieldRule) (i : ℕ) (r : FieldRule) (after : List FieldRule) → AreRules rules → drop i rules ≡ r ∷ after → 0 < r.width
wide_at [] zero r after t e = absurd cc
wide_at [] (suc i) r after t e = absurd cc
wide_at (q ∷ rules) zero r after t e = (let same : q ≡ r = cc in subst (λ (x : FieldRule). 0 < x.width) same t.0)
wide_at (q ∷ rules) (suc i) r after t e = wide_at rules i r after t.2 e
