-- The object of a parameter of a type and a value.
use Rattle.std.proofs.Common.{◌≡◌, ℕ, Bool, true, false, not, List, [], ◌∷◌, ◌++◌, length, map, refl, sym, ap, subst, ◌∙◌, arith, append_assoc}
use Rattle.std.specs.Prelude.{codes, cond, filter, get_or}
use Rattle.std.specs.List.{All, list_all}
use Rattle.std.proofs.lemmas.List.{append-nil}
use Rattle.llrp_schema.specs.declared.kinds.Field.{Field}
use Rattle.llrp_schema.specs.declared.kinds.ParamKind.{ParamKind}
use Rattle.llrp_schema.specs.declared.kinds.Kind.TheVariants.{Parameter}
use Rattle.llrp_schema.specs.declared.kinds.Tail.{Tail}
use Rattle.llrp_schema.specs.Schema.{FieldRule, fields_of, is_tv, name_of, tail_of}
use Rattle.llrp_schema.specs.Calls.Schema.{field_rule}
use Rattle.llrp_schema.proofs.TableLaws.{signed_fields, tv_field, tv_tail}
use Rattle.llrp_listing.specs.NodeLine.{field_form}
use Rattle.llrp_json.specs.JsonValues.{member, object, string}
use Rattle.llrp_json.specs.JsonItems.{AreFields, AreParameters, IsValue, field_name, more_members, parameters_members, tail_members}
use Rattle.llrp_json.specs.Private.OpenJson.{one_parameter}
use Rattle.llrp_json.specs.Private.Openings.{first_name, value_opening}
use Rattle.tag_uri.proofs.UriLemmas.{left}
use Rattle.llrp_json.proofs.NodeTexts.{object_first}
use Rattle.llrp_json.proofs.PlainNames.{fields_plain, is_named}

first_rule : (fs : List Field) (r : FieldRule) (d : Field) → map field_rule fs ≡ r ∷ [] → field_rule (get_or fs 0 d) ≡ r
first_rule [] r d e = absurd (let z = ap (λ (x : List FieldRule). length x) e in omega (arith, z))
first_rule (x ∷ xs) r d e = ap (λ (y : List FieldRule). get_or y 0 r) e

module _ (k : ParamKind) (short : is_tv k ≡ true) (fs : List Field) (d : Field) (is : map field_rule fs ≡ fields_of (Parameter k)) where
  abbrev rule : FieldRule
  rule = (tv_field k short).0

  fields_are : fields_of (Parameter k) ≡ rule ∷ []
  fields_are = (tv_field k short).1

  rule_is : field_rule (get_or fs 0 d) ≡ rule
  rule_is = first_rule fs rule d (is ∙ fields_are)

  signed_rule : rule.signed ≡ true → (rule.reserved ≡ false) × (rule.width ≡ 8) × (rule.greatest ≡ 255)
  signed_rule = (let all = subst (λ (x : List FieldRule). All (λ (field : FieldRule). field.signed ≡ true → (field.reserved ≡ false) × (field.width ≡ 8) × (field.greatest ≡ 255)) x) fields_are (signed_fields (Parameter k)) in all 0 rule (omega arith))

  -- a signed field has eight bits
  pub signed_width : (get_or fs 0 d).signed ≡ true → (get_or fs 0 d).width ≡ 8
  signed_width e = ap (λ (x : FieldRule). x.width) rule_is ∙ (signed_rule (ap (λ (x : FieldRule). x.signed) (sym rule_is) ∙ e)).1

  -- no octet of its name needs an escape
  pub value_named : is_named (field_rule (get_or fs 0 d)) ≡ true
  value_named = ap is_named rule_is ∙ left (is_named rule) (list_all is_named []) (ap (λ (x : List FieldRule). list_all is_named x) (sym fields_are) ∙ fields_plain (Parameter k))

  are_fields : (v : ℕ) (value : List ℕ) → IsValue (field_form rule) v value → AreFields (filter (λ field. not field.reserved) (fields_of (Parameter k))) (v ∷ []) (member (field_name rule) value ∷ [])
  are_fields v value i =
      subst (λ (x : List FieldRule). AreFields (filter (λ field. not field.reserved) x) (v ∷ []) (member (field_name rule) value ∷ [])) (sym fields_are)
      (subst (λ (b : Bool). AreFields (cond (not b) (rule ∷ []) []) (v ∷ []) (member (field_name rule) value ∷ [])) (sym (tv_field k short).2) ((value, i, refl), tt))

  -- its object was appended
  value_parameter : (v : ℕ) (value old t1 t2 t3 : List ℕ) → IsValue (field_form (field_rule (get_or fs 0 d))) v value → t1 ≡ old ++ (123 ∷ member (codes "parameter") (string (name_of (Parameter k))))
      → t2 ≡ t1 ++ (44 ∷ member (field_name (field_rule (get_or fs 0 d))) value) → t3 ≡ t2 ++ 125 ∷ [] → (one : List ℕ) × AreParameters (one_parameter k v) (one ∷ []) × (t3 ≡ old ++ one)
  value_parameter v value old t1 t2 t3 i p q r =
      let first : List ℕ = member (codes "parameter") (string (name_of (Parameter k))) in
      let m : List ℕ = member (field_name rule) value in
      let i2 : IsValue (field_form rule) v value = subst (λ (x : FieldRule). IsValue (field_form x) v value) rule_is i in
      let others : List (List ℕ) = tail_members (tail_of (Parameter k)) [] ++ parameters_members [] in
      let none_other : others ≡ [] = ap (λ (x : Tail). tail_members x [] ++ []) (tv_tail k short) in
      let one : List ℕ = object (first ∷ (m ∷ others)) in
      let text : (123 ∷ first) ++ ((44 ∷ m) ++ 125 ∷ []) ≡ one =
      ap (λ (x : List ℕ). (123 ∷ first) ++ (x ++ 125 ∷ [])) (sym (append-nil (44 ∷ m))) ∙ ap (λ (x : List (List ℕ)). (123 ∷ first) ++ (more_members (m ∷ x) ++ 125 ∷ [])) (sym none_other) ∙ sym (object_first first (m ∷ others)) in
      let whole : t3 ≡ old ++ one =
      r ∙ ap (λ (x : List ℕ). x ++ 125 ∷ []) (q ∙ ap (λ (x : FieldRule). t1 ++ (44 ∷ member (field_name x) value)) rule_is ∙ ap (λ (x : List ℕ). x ++ (44 ∷ m)) p)
      ∙ append_assoc (old ++ (123 ∷ first)) (44 ∷ m) (125 ∷ []) ∙ append_assoc old (123 ∷ first) ((44 ∷ m) ++ 125 ∷ []) ∙ ap (λ (x : List ℕ). old ++ x) text in
      (one, ([], m ∷ [], [], refl, are_fields v value i2, refl, refl), whole)

  -- the same, where what comes before the value was appended at once
  pub opened_parameter : (v : ℕ) (value old t1 t2 t3 : List ℕ) → IsValue (field_form (field_rule (get_or fs 0 d))) v value → t1 ≡ old ++ value_opening k → t2 ≡ t1 ++ value → t3 ≡ t2 ++ 125 ∷ [] → (one : List ℕ) × AreParameters (one_parameter k v) (one ∷ []) × (t3 ≡ old ++ one)
  opened_parameter v value old t1 t2 t3 i p q r =
      let first : List ℕ = 123 ∷ member (codes "parameter") (string (name_of (Parameter k))) in
      let name : List ℕ = string (first_name (fields_of (Parameter k))) in
      let same : first_name (fields_of (Parameter k)) ≡ field_name (field_rule (get_or fs 0 d)) = ap first_name fields_are ∙ ap field_name (sym rule_is) in
      let text : value_opening k ++ value ≡ first ++ (44 ∷ member (field_name (field_rule (get_or fs 0 d))) value) =
      append_assoc first (44 ∷ (name ++ 58 ∷ [])) value ∙ ap (λ (x : List ℕ). first ++ (44 ∷ x)) (append_assoc name (58 ∷ []) value) ∙ ap (λ (x : List ℕ). first ++ (44 ∷ member x value)) same in
      let whole : t2 ≡ (old ++ first) ++ (44 ∷ member (field_name (field_rule (get_or fs 0 d))) value) =
      q ∙ ap (λ (x : List ℕ). x ++ value) p ∙ append_assoc old (value_opening k) value ∙ ap (λ (x : List ℕ). old ++ x) text ∙ sym (append_assoc old first (44 ∷ member (field_name (field_rule (get_or fs 0 d))) value)) in
      value_parameter v value old (old ++ first) t2 t3 i refl whole r
