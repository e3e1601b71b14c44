-- What the tables say of the numbers of a line.
use Rattle.std.proofs.Common.{◌≡◌, ℕ, ◌^◌, ◌<◌, ◌≤◌, Bool, true, false, not, ◌||◌, ◌&&◌, nat_le, ◌==◌, List, [], ◌∷◌, ◌++◌, map, refl, sym, ap, subst, ◌∙◌, arith, inl, inr, ◌⊎◌}
use Rattle.std.specs.Prelude.{filter}
use Rattle.std.proofs.lemmas.Bool.{and_parts, leb-true}
use Rattle.std.proofs.Math.Nat.{pow-le-pow_right}
use Rattle.llrp_schema.proofs.SchemaLemmas.{not_true}
use Rattle.llrp_schema.specs.declared.kinds.ParamKind.{ParamKind}
use Rattle.llrp_schema.specs.declared.kinds.ParamKind.TheVariants.{AntennaId, Epc96, PeakRssi, WholeEpc96, WholePeakRssi}
use Rattle.llrp_schema.specs.declared.kinds.Kind.TheVariants.{Parameter}
use Rattle.llrp_schema.specs.Schema.{FieldRule, fields_of, bits_of, is_tv, rule_of, param_rule, number_of}
use Rattle.llrp_schema.proofs.TableLaws.{tv_tail}
use Rattle.llrp_schema.specs.Schema.{name_of}
use Rattle.tag_uri.specs.TagText.{IsTextOf}
use Rattle.std.specs.Prelude.{decimal}
use Rattle.std.proofs.Common.{append_assoc}
use Rattle.std.proofs.lemmas.List.{append-nil}
use Rattle.llrp_schema.specs.declared.kinds.Tail.{Tail}
use Rattle.llrp_listing.specs.NodeLine.{NumberForm, Epc, Signed, Unsigned, field_form, number_forms, signed_text, IsNumberText, AreNumberTexts, IsLine, parameter_line, spaced, tail_texts}

-- the kinds whose value is an EPC's word, and those whose value has a sign, one of each profile
abbrev IsEpc : ParamKind → Type 0
IsEpc k = (k ≡ Epc96) ⊎ (k ≡ WholeEpc96)

abbrev IsRssi : ParamKind → Type 0
IsRssi k = (k ≡ PeakRssi) ⊎ (k ≡ WholePeakRssi)

abbrev is_other : ParamKind → Bool
is_other Epc96 = false
is_other WholeEpc96 = false
is_other PeakRssi = false
is_other WholePeakRssi = false
is_other kind = true

-- one plain field without a sign, of 64 bits at most
abbrev is_unsigned : List FieldRule → Bool
is_unsigned (r ∷ []) = not r.reserved && (not (r.width == 96) && (not r.signed && nat_le r.width 64))
is_unsigned rules = false

others : (k : ParamKind) → (not (is_tv k && is_other k) || is_unsigned (fields_of (Parameter k))) ≡ true
unfolding number_of rule_of param_rule fields_of is_tv
others AntennaId = refl
others _ = refl

one_unsigned : (rs : List FieldRule) → is_unsigned rs ≡ true → (map field_form (filter (λ field. not field.reserved) rs) ≡ Unsigned ∷ []) × (bits_of rs ≤ 64)
one_unsigned [] e = absurd cc
one_unsigned (r ∷ []) e =
    let a = and_parts (not r.reserved) _ e in
    let b = and_parts (not (r.width == 96)) _ a.1 in
    let c = and_parts (not r.signed) _ b.1 in
    let plain : r.reserved ≡ false = not_true r.reserved a.0 in
    let narrow : (r.width == 96) ≡ false = not_true (r.width == 96) b.0 in
    let unsigned : r.signed ≡ false = not_true r.signed c.0 in
    let few : r.width ≤ 64 = leb-true r.width 64 c.1 in
    (rw (plain, narrow, unsigned) refl, omega (arith, few))
one_unsigned (r ∷ q ∷ rs) e = absurd cc

other_is : (k : ParamKind) → (IsEpc k → ⊥) → (IsRssi k → ⊥) → is_other k ≡ true
other_is Epc96 a b = absurd (a (inl refl))
other_is WholeEpc96 a b = absurd (a (inr refl))
other_is PeakRssi a b = absurd (b (inl refl))
other_is WholePeakRssi a b = absurd (b (inr refl))
other_is _ a b = refl

pub neither : {k a b : ParamKind} → (k ≡ a → ⊥) → (k ≡ b → ⊥) → (k ≡ a) ⊎ (k ≡ b) → ⊥
neither {k} {a} {b} f g (inl e) = f e
neither {k} {a} {b} f g (inr e) = g e

implied : (a b c : Bool) → (not (a && b) || c) ≡ true → a ≡ true → b ≡ true → c ≡ true
implied true true c h x y = h
implied true false c h x y = absurd cc
implied false b c h x y = absurd cc

other_unsigned : (k : ParamKind) → is_tv k ≡ true → (IsEpc k → ⊥) → (IsRssi k → ⊥) → is_unsigned (fields_of (Parameter k)) ≡ true
other_unsigned k t a b = implied (is_tv k) (is_other k) (is_unsigned (fields_of (Parameter k))) (others k) t (other_is k a b)

other_form : (k : ParamKind) → is_tv k ≡ true → (IsEpc k → ⊥) → (IsRssi k → ⊥) → number_forms (Parameter k) ≡ Unsigned ∷ []
unfolding number_forms
other_form k t a b = (one_unsigned (fields_of (Parameter k)) (other_unsigned k t a b)).0

epc_form : (k : ParamKind) → IsEpc k → number_forms (Parameter k) ≡ Epc ∷ []
unfolding number_forms fields_of rule_of param_rule
epc_form k (inl e) = ap (λ (j : ParamKind). number_forms (Parameter j)) e
epc_form k (inr e) = ap (λ (j : ParamKind). number_forms (Parameter j)) e

epc_bits : (k : ParamKind) → IsEpc k → bits_of (fields_of (Parameter k)) ≡ 96
unfolding fields_of rule_of param_rule
epc_bits k (inl e) = ap (λ (j : ParamKind). bits_of (fields_of (Parameter j))) e
epc_bits k (inr e) = ap (λ (j : ParamKind). bits_of (fields_of (Parameter j))) e

rssi_form : (k : ParamKind) → IsRssi k → number_forms (Parameter k) ≡ Signed ∷ []
unfolding number_forms fields_of rule_of param_rule
rssi_form k (inl e) = ap (λ (j : ParamKind). number_forms (Parameter j)) e
rssi_form k (inr e) = ap (λ (j : ParamKind). number_forms (Parameter j)) e

rssi_bits : (k : ParamKind) → IsRssi k → bits_of (fields_of (Parameter k)) ≡ 8
unfolding fields_of rule_of param_rule
rssi_bits k (inl e) = ap (λ (j : ParamKind). bits_of (fields_of (Parameter j))) e
rssi_bits k (inr e) = ap (λ (j : ParamKind). bits_of (fields_of (Parameter j))) e

-- ---- the value of a parameter of a type and a value

pub epc_fits : (k : ParamKind) (v : ℕ) → IsEpc k → v < 2 ^ bits_of (fields_of (Parameter k)) → v < 2 ^ 96
epc_fits k v e h = subst (λ (n : ℕ). v < 2 ^ n) (epc_bits k e) h

pub rssi_fits : (k : ParamKind) (v : ℕ) → IsRssi k → v < 2 ^ bits_of (fields_of (Parameter k)) → v < 2 ^ 8
rssi_fits k v e h = subst (λ (n : ℕ). v < 2 ^ n) (rssi_bits k e) h

pub other_fits : (k : ParamKind) (v : ℕ) → is_tv k ≡ true → (IsEpc k → ⊥) → (IsRssi k → ⊥) → v < 2 ^ bits_of (fields_of (Parameter k)) → v < 2 ^ 64
other_fits k v t a b h =
    let few = (one_unsigned (fields_of (Parameter k)) (other_unsigned k t a b)).1 in
    omega (arith, h, pow-le-pow_right {n = 2} (omega arith) {i = bits_of (fields_of (Parameter k))} {j = 64} few)

of_form : (k : ParamKind) (f : NumberForm) (v : ℕ) (w : List ℕ) → number_forms (Parameter k) ≡ f ∷ [] → IsNumberText f v w → AreNumberTexts (number_forms (Parameter k)) (v ∷ []) (w ∷ [])
of_form k f v w e t = subst (λ (fs : List NumberForm). AreNumberTexts fs (v ∷ []) (w ∷ [])) (sym e) (t, tt)

pub epc_text : (k : ParamKind) (v : ℕ) (w : List ℕ) → IsEpc k → IsTextOf v w → AreNumberTexts (number_forms (Parameter k)) (v ∷ []) (w ∷ [])
epc_text k v w e t = of_form k Epc v w (epc_form k e) t

pub rssi_text : (k : ParamKind) (v : ℕ) → IsRssi k → AreNumberTexts (number_forms (Parameter k)) (v ∷ []) (signed_text v ∷ [])
rssi_text k v e = of_form k Signed v (signed_text v) (rssi_form k e) refl

pub other_text : (k : ParamKind) (v : ℕ) → is_tv k ≡ true → (IsEpc k → ⊥) → (IsRssi k → ⊥) → AreNumberTexts (number_forms (Parameter k)) (v ∷ []) (decimal v ∷ [])
other_text k v t a b = of_form k Unsigned v (decimal v) (other_form k t a b) refl

-- ---- lines

pub start_text : (level : ℕ) (name text : List ℕ) → text ≡ name → (decimal level ++ 32 ∷ []) ++ text ≡ decimal level ++ spaced (name ∷ [])
start_text level name text e = rw (e, append_assoc (decimal level) (32 ∷ []) name, append-nil name) refl

joined : (a b c d e : List ℕ) → (((a ++ b) ++ c) ++ d) ++ e ≡ a ++ (b ++ (c ++ (d ++ e)))
joined a b c d e = simp append_assoc

line_text : (d n w : List ℕ) → (((d ++ spaced (n ∷ [])) ++ (32 ∷ [])) ++ w) ++ (10 ∷ []) ≡ d ++ (spaced (n ∷ w ∷ []) ++ (10 ∷ []))
line_text d n w =
    joined d ((32 ∷ n) ++ []) (32 ∷ []) w (10 ∷ [])
    ∙ ap (λ (x : List ℕ). d ++ (x ++ ((32 ∷ w) ++ (10 ∷ [])))) (append-nil (32 ∷ n))
    ∙ ap (λ (x : List ℕ). d ++ x) (sym (append_assoc (32 ∷ n) (32 ∷ w) (10 ∷ [])))
    ∙ ap (λ (x : List ℕ). d ++ (((32 ∷ n) ++ x) ++ (10 ∷ []))) (sym (append-nil (32 ∷ w)))

pub value_line : (level : ℕ) (k : ParamKind) (v : ℕ) (w : List ℕ) → is_tv k ≡ true → AreNumberTexts (number_forms (Parameter k)) (v ∷ []) (w ∷ [])
    → IsLine (level, parameter_line k (v ∷ []) []) ((((decimal level ++ spaced (name_of (Parameter k) ∷ [])) ++ (32 ∷ [])) ++ w) ++ (10 ∷ []))
value_line level k v w t a = record {
  numbers = w ∷ [];
  are = a;
  text_is = line_text (decimal level) (name_of (Parameter k)) w
      ∙ ap (λ (form : Tail). decimal level ++ (spaced (name_of (Parameter k) ∷ ((w ∷ []) ++ tail_texts form [])) ++ (10 ∷ []))) (sym (tv_tail k t));
}
