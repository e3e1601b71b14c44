-- A parameter with type and value alone.
use Rattle.std.proofs.Common.{◌≡◌, ℕ, ◌+◌, ◌*◌, ◌%◌, ◌≤◌, Bool, false, List, [], ◌∷◌, ◌++◌, refl, sym, ap, ◌∙◌, arith}
use Rattle.std.proofs.lemmas.List.{append-nil}
use Rattle.std.proofs.lemmas.List.Sums.{sum_by-cons}
use Rattle.tag_bits.specs.Digits.{digits}
use Rattle.llrp_schema.specs.declared.kinds.ParamKind.{ParamKind}
use Rattle.llrp_schema.specs.declared.kinds.Kind.TheVariants.{Parameter}
use Rattle.llrp_schema.specs.declared.kinds.Tail.{Tail}
use Rattle.llrp_schema.specs.declared.kinds.Tail.TheVariants.{Absent}
use Rattle.llrp_schema.specs.Schema.{FieldRule, bits_of, fields_of, tail_of}
use Rattle.llrp_schema.proofs.TableLaws.{few_bits, tv_tail, whole_octets}
use Rattle.llrp_tree.specs.Lawful.{head_octets}
use Rattle.llrp_tree.specs.Calls.HeadOctets.{IsOnlyField, all_fields, leading_digits}
use Rattle.llrp_tree.specs.Spelling.{count_digits}

-- ---- its bits

bits_one : (rule : FieldRule) → bits_of (rule ∷ []) ≡ rule.width
bits_one rule = sum_by-cons (λ (r : FieldRule). r.width) rule [] ∙ omega arith

pub field_width : (kind : ParamKind) (rule : FieldRule) → IsOnlyField kind rule → bits_of (fields_of (Parameter kind)) ≡ rule.width
field_width kind rule o = ap (λ (fs : List FieldRule). bits_of fs) o.fields ∙ bits_one rule

pub few_width : (kind : ParamKind) (rule : FieldRule) → IsOnlyField kind rule → rule.width ≤ 96
few_width kind rule o = omega (arith, field_width kind rule o, few_bits (Parameter kind))

pub head_bits : (kind : ParamKind) (rule : FieldRule) → IsOnlyField kind rule → 8 * head_octets kind ≡ 8
head_bits kind rule o = rw o.tv refl

pub whole_width : (kind : ParamKind) (rule : FieldRule) (n : ℕ) → IsOnlyField kind rule → n ≡ 8 * head_octets kind → (n + rule.width) % 8 ≡ 0
whole_width kind rule n o e = omega (arith, e, head_bits kind rule o, field_width kind rule o, whole_octets (Parameter kind))

-- ---- its digits

no_digits : (form : Tail) → form ≡ Absent → count_digits form [] ≡ []
no_digits form e = ap (λ (f : Tail). count_digits f []) e

field_alone : (rule : FieldRule) (value : ℕ) → rule.reserved ≡ false → all_fields (rule ∷ []) (value ∷ []) ≡ digits rule.width value ++ []
field_alone rule value plain = rw plain refl

pub value_digits : (kind : ParamKind) (rule : FieldRule) (value : ℕ) → IsOnlyField kind rule → digits rule.width value ≡ leading_digits (Parameter kind) (value ∷ []) []
value_digits kind rule value o =
    sym (ap (λ (ds : List Bool). all_fields (fields_of (Parameter kind)) (value ∷ []) ++ ds) (no_digits (tail_of (Parameter kind)) (tv_tail kind o.tv))
    ∙ append-nil (all_fields (fields_of (Parameter kind)) (value ∷ []))
    ∙ ap (λ (fs : List FieldRule). all_fields fs (value ∷ [])) o.fields
    ∙ field_alone rule value o.plain
    ∙ append-nil (digits rule.width value))
