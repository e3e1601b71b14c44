-- A kind of the whole standard has the shape of the kind with its number: the same fields but for their names, and the same tail. The checker computes each kind's.
use Rattle.std.proofs.Common.{◌≡◌, ℕ, zero, suc, Bool, true, false, not, cond, List, [], ◌∷◌, length, drop, refl, sym, ap, ◌∙◌, arith}
use Rattle.std.specs.Prelude.{◌+◌, ◌<◌, filter, map, nat_lt}
use Rattle.std.proofs.lemmas.List.Sums.{sum_by-cons}
use Rattle.llrp_schema.specs.declared.kinds.MsgKind.{MsgKind}
use Rattle.llrp_schema.specs.declared.kinds.MsgKind.TheVariants.{SetReaderConfig}
use Rattle.llrp_schema.specs.declared.kinds.ParamKind.{ParamKind}
use Rattle.llrp_schema.specs.declared.kinds.ParamKind.TheVariants.{AntennaId}
use Rattle.llrp_schema.specs.declared.kinds.Kind.{Kind}
use Rattle.llrp_schema.specs.declared.kinds.Kind.TheVariants.{Message, Parameter}
use Rattle.llrp_schema.specs.Schema.{FieldRule, bits_of, fields_of, is_tv, message_in, message_rule, number_of, param_rule, rule_of, tail_of, tlv_in, tv_in, whole_message_kinds, whole_param_kinds}
use Rattle.llrp_schema.specs.Calls.ProfilePart.{field_shape}
use Rattle.llrp_tree.specs.OpenTree.{plain_values}
use Rattle.llrp_json.specs.JsonNames.{standard_message, standard_parameter}

-- ---- each kind

message_fields : (kind : MsgKind) → map field_shape (fields_of (Message (standard_message kind))) ≡ map field_shape (fields_of (Message kind))
unfolding standard_message message_in number_of fields_of rule_of message_rule whole_message_kinds
message_fields SetReaderConfig = refl
message_fields _ = refl

parameter_fields : (kind : ParamKind) → map field_shape (fields_of (Parameter (standard_parameter kind))) ≡ map field_shape (fields_of (Parameter kind))
unfolding standard_parameter is_tv tlv_in tv_in number_of fields_of rule_of param_rule whole_param_kinds
parameter_fields AntennaId = refl
parameter_fields _ = refl

message_tail : (kind : MsgKind) → tail_of (Message (standard_message kind)) ≡ tail_of (Message kind)
unfolding standard_message message_in number_of tail_of rule_of message_rule whole_message_kinds
message_tail SetReaderConfig = refl
message_tail _ = refl

parameter_tail : (kind : ParamKind) → tail_of (Parameter (standard_parameter kind)) ≡ tail_of (Parameter kind)
unfolding standard_parameter is_tv tlv_in tv_in number_of tail_of rule_of param_rule whole_param_kinds
parameter_tail AntennaId = refl
parameter_tail _ = refl

pub parameter_form : (kind : ParamKind) → is_tv (standard_parameter kind) ≡ is_tv kind
unfolding standard_parameter is_tv tlv_in tv_in number_of rule_of param_rule whole_param_kinds
parameter_form AntennaId = refl
parameter_form _ = refl

abbrev pub standard_kind : Kind → Kind
standard_kind (Message kind) = Message (standard_message kind)
standard_kind (Parameter kind) = Parameter (standard_parameter kind)

pub same_fields : (kind : Kind) → map field_shape (fields_of (standard_kind kind)) ≡ map field_shape (fields_of kind)
same_fields (Message kind) = message_fields kind
same_fields (Parameter kind) = parameter_fields kind

pub same_tail : (kind : Kind) → tail_of (standard_kind kind) ≡ tail_of kind
same_tail (Message kind) = message_tail kind
same_tail (Parameter kind) = parameter_tail kind

-- ---- what rows of one shape share

-- the first rows of rows of one shape have one, and the others have
module _ (r s : FieldRule) (rs ss : List FieldRule) (e : map field_shape (r ∷ rs) ≡ map field_shape (s ∷ ss)) where
  same_first : field_shape r ≡ field_shape s
  same_first = (let z : field_shape r ∷ map field_shape rs ≡ field_shape s ∷ map field_shape ss = e in cc)

  same_others : map field_shape rs ≡ map field_shape ss
  same_others = (let z : field_shape r ∷ map field_shape rs ≡ field_shape s ∷ map field_shape ss = e in cc)

pub same_width : (r s : FieldRule) → field_shape r ≡ field_shape s → r.width ≡ s.width
same_width r s e = ap (λ p. p.0) e

pub same_reserved : (r s : FieldRule) → field_shape r ≡ field_shape s → r.reserved ≡ s.reserved
same_reserved r s e = ap (λ p. p.1) e

pub same_signed : (r s : FieldRule) → field_shape r ≡ field_shape s → r.signed ≡ s.signed
same_signed r s e = ap (λ p. p.3) e

pub same_bits : (rs ss : List FieldRule) → map field_shape rs ≡ map field_shape ss → bits_of rs ≡ bits_of ss
same_bits [] [] e = refl
same_bits [] (s ∷ ss) e = absurd cc
same_bits (r ∷ rs) [] e = absurd cc
same_bits (r ∷ rs) (s ∷ ss) e =
    let first : r.width ≡ s.width = same_width r s (same_first r s rs ss e) in
    let others : bits_of rs ≡ bits_of ss = same_bits rs ss (same_others r s rs ss e) in
    sum_by-cons (λ rule. rule.width) r rs ∙ ap (λ (x : ℕ). x + bits_of rs) first ∙ ap (λ (x : ℕ). s.width + x) others ∙ sym (sum_by-cons (λ rule. rule.width) s ss)

pub same_plain : (rs ss : List FieldRule) (vs : List ℕ) → map field_shape rs ≡ map field_shape ss → plain_values rs vs ≡ plain_values ss vs
same_plain [] [] vs e = refl
same_plain [] (s ∷ ss) vs e = absurd cc
same_plain (r ∷ rs) [] vs e = absurd cc
same_plain (r ∷ rs) (s ∷ ss) [] e = refl
same_plain (r ∷ rs) (s ∷ ss) (v ∷ vs) e =
    ap (λ (x : List ℕ). cond r.reserved x (v ∷ x)) (same_plain rs ss vs (same_others r s rs ss e))
    ∙ ap (λ (b : Bool). cond b (plain_values ss vs) (v ∷ plain_values ss vs)) (same_reserved r s (same_first r s rs ss e))

abbrev plain : List FieldRule → List FieldRule
plain rs = filter (λ rule. not rule.reserved) rs

one_more : (b : Bool) (r s : FieldRule) (rs ss : List FieldRule) → length rs ≡ length ss → length (cond b (r ∷ rs) rs) ≡ length (cond b (s ∷ ss) ss)
one_more true r s rs ss e = ap suc e
one_more false r s rs ss e = e

pub same_count : (rs ss : List FieldRule) → map field_shape rs ≡ map field_shape ss → length (plain rs) ≡ length (plain ss)
same_count [] [] e = refl
same_count [] (s ∷ ss) e = absurd cc
same_count (r ∷ rs) [] e = absurd cc
same_count (r ∷ rs) (s ∷ ss) e =
    one_more (not r.reserved) r s (plain rs) (plain ss) (same_count rs ss (same_others r s rs ss e))
    ∙ ap (λ (b : Bool). length (cond (not b) (s ∷ plain ss) (plain ss))) (same_reserved r s (same_first r s rs ss e))

pub same_length : (rs ss : List FieldRule) → map field_shape rs ≡ map field_shape ss → length rs ≡ length ss
same_length [] [] e = refl
same_length [] (s ∷ ss) e = absurd cc
same_length (r ∷ rs) [] e = absurd cc
same_length (r ∷ rs) (s ∷ ss) e = ap suc (same_length rs ss (same_others r s rs ss e))

pub same_dropped : (k : ℕ) (rs ss : List FieldRule) → map field_shape rs ≡ map field_shape ss → map field_shape (drop k rs) ≡ map field_shape (drop k ss)
same_dropped zero rs ss e = e
same_dropped (suc k) [] [] e = e
same_dropped (suc k) [] (s ∷ ss) e = absurd cc
same_dropped (suc k) (r ∷ rs) [] e = absurd cc
same_dropped (suc k) (r ∷ rs) (s ∷ ss) e = same_dropped k rs ss (same_others r s rs ss e)

-- where a row comes next among some, one of its shape comes next among the others
pub same_next : (rs ss others : List FieldRule) (s : FieldRule) → map field_shape rs ≡ map field_shape ss → ss ≡ s ∷ others → (r : FieldRule) × (more : List FieldRule) × (rs ≡ r ∷ more) × (field_shape r ≡ field_shape s)
same_next [] ss others s e is = absurd (let z : [] ≡ map field_shape (s ∷ others) = e ∙ ap (λ (x : List FieldRule). map field_shape x) is in cc)
same_next (r ∷ rs) ss others s e is =
    let z : map field_shape (r ∷ rs) ≡ map field_shape (s ∷ others) = e ∙ ap (λ (x : List FieldRule). map field_shape x) is in (r, rs, refl, same_first r s rs others z)

-- ---- a number of seven bits

pub short_number : (kind : ParamKind) → is_tv kind ≡ true → number_of (Parameter kind) < 128
unfolding is_tv
short_number kind e = is_below (number_of (Parameter kind)) 128 e
  where
    is_below : (a b : ℕ) → nat_lt a b ≡ true → a < b
    is_below a b e = grind arith
