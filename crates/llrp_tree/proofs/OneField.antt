-- A parameter with a type and a value alone has one field: what reading it finds, as a step of an open tree.
use Rattle.std.proofs.Common.{◌≡◌, ℕ, ◌+◌, ◌%◌, ◌<◌, ◌≤◌, Bool, true, false, List, [], ◌∷◌, length, take, drop, refl, ap, subst, ◌∙◌, arith, map, get_or}
use Rattle.llrp_schema.specs.declared.kinds.Kind.TheVariants.{Parameter}
use Rattle.llrp_schema.specs.declared.kinds.ParamKind.{ParamKind}
use Rattle.llrp_schema.specs.declared.kinds.Field.{Field}
use Rattle.llrp_schema.specs.Schema.{FieldRule, bits_of, fields_of, is_tv}
use Rattle.llrp_schema.specs.Calls.Schema.{field_rule}
use Rattle.llrp_schema.proofs.TableLaws.{tv_field, whole_octets}
use Rattle.llrp_tree.specs.Spelling.{Head, spread}
use Rattle.llrp_tree.specs.OpenTree.{Begun, kind_of_head, in_range}
use Rattle.llrp_tree.specs.FirstFault.{number}
use Rattle.llrp_tree.specs.Calls.Standing.{IsAt, leading}
use Rattle.llrp_tree.proofs.Leading.{plain}
use Rattle.llrp_tree.proofs.ReadingLemmas.{all_taken, plain-one, width_more, plain_grows}

-- a list of rules that are one plain rule
one_plain : (fs : List Field) (d : Field) (rule : FieldRule) → map field_rule fs ≡ rule ∷ [] → rule.reserved ≡ false → (length fs ≡ 1) × ((get_or fs 0 d).reserved ≡ false)
one_plain [] d rule same plain = absurd (let none = ap (λ (rules : List FieldRule). length rules) same in omega (arith, none))
one_plain (f ∷ []) d rule same plain = (refl, ap (λ (rules : List FieldRule). (get_or rules 0 rule).reserved) same ∙ plain)
one_plain (f ∷ g ∷ more) d rule same plain = absurd (let two = ap (λ (rules : List FieldRule). length rules) same in omega (arith, two))

-- its kind has one plain field
pub one_plain_field : (kind : ParamKind) → is_tv kind ≡ true → length (plain (fields_of (Parameter kind))) ≡ 1
one_plain_field kind short = let field = tv_field kind short in ap (λ (rules : List FieldRule). length (plain rules)) field.1 ∙ plain-one field.0 field.2

module _ (fs : List Field) (kind : ParamKind) (d : Field) (short : is_tv kind ≡ true) (same : map field_rule fs ≡ fields_of (Parameter kind)) where
  its : (length fs ≡ 1) × ((get_or fs 0 d).reserved ≡ false)
  its = let field = tv_field kind short in one_plain fs d field.0 (same ∙ field.1) field.2

  pub one_rule : length fs ≡ 1
  one_rule = its.0

  some_rule : 0 < length fs
  some_rule = omega (arith, one_rule)

  all_are_taken : take 1 (map field_rule fs) ≡ fields_of (Parameter kind)
  all_are_taken = all_taken fs (Parameter kind) 1 same (omega (arith, one_rule))

  pub whole_width : (get_or fs 0 d).width % 8 ≡ 0
  whole_width =
      let all = ap bits_of all_are_taken in
      let one = width_more fs 0 d some_rule in
      omega (arith, all, one, whole_octets (Parameter kind))

  pub value_stands : (ds : List Bool) (h : Head) (stop : ℕ) (outer : List Begun) (at v : ℕ) → kind_of_head h ≡ Parameter kind → IsAt ds (leading h stop [] ∷ outer) at
      → at + (get_or fs 0 d).width ≤ stop → v ≡ number (drop at ds) 0 (get_or fs 0 d).width → in_range (field_rule (get_or fs 0 d)) v ≡ true
      → IsAt ds (leading h stop (spread (fields_of (Parameter kind)) (v ∷ [])) ∷ outer) (at + (get_or fs 0 d).width)
  value_stands ds h stop outer at v k st fit is ranges =
      subst (λ (rules : List FieldRule). IsAt ds (leading h stop (spread rules (v ∷ [])) ∷ outer) (at + (get_or fs 0 d).width)) all_are_taken
      (plain_grows ds fs (Parameter kind) 0 d h stop [] outer at v same some_rule k st fit is ranges (v ∷ []) its.1 refl refl)
