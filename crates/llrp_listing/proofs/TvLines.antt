-- The line of a parameter with a type and a value alone.
use Rattle.std.proofs.Common.{◌≡◌, ℕ, ◌+◌, ◌-◌, ◌/◌, ◌^◌, ◌<◌, ◌≤◌, Bool, true, false, List, [], ◌∷◌, length, map, get_or, min, Option, None, refl, sym, ap, subst, ◌∙◌, arith}
use Rattle.std.specs.Prelude.{nat_le, ◌&&◌}
use Rattle.std.proofs.lemmas.Bool.{leb-true}
use Rattle.std.proofs.Math.Pow.{lt_of_le_ones}
use Rattle.llrp_schema.specs.declared.kinds.Field.{Field}
use Rattle.llrp_schema.specs.declared.kinds.ParamKind.{ParamKind}
use Rattle.llrp_schema.specs.declared.kinds.Kind.TheVariants.{Parameter}
use Rattle.llrp_schema.specs.declared.kinds.Tail.{Tail}
use Rattle.llrp_schema.specs.declared.kinds.Tail.TheVariants.{Absent}
use Rattle.llrp_schema.specs.Schema.{FieldRule, fields_of, is_tv, tail_of}
use Rattle.llrp_schema.specs.Calls.Schema.{field_rule}
use Rattle.llrp_schema.proofs.TableLaws.{tv_field, tv_tail}
use Rattle.llrp_tree.specs.declared.node.NodeFault.{NodeFault}
use Rattle.llrp_tree.specs.declared.node.NodeFault.TheVariants.{Tail as BadTail, Value}
use Rattle.llrp_tree.specs.Checks.{first_failed, tail_fits, values_fit}
use Rattle.llrp_tree.specs.Lawful.{body_octets, count_octets}
use Rattle.llrp_tree.specs.Calls.Lawful.{own_octets}
use Rattle.llrp_tree.specs.Calls.HeadOctets.{IsOnlyField}
use Rattle.llrp_tree.proofs.TvLemmas.{few_width, field_width, head_bits}
use Rattle.llrp_listing.specs.Private.OpenNodes.{MOST}

-- ---- the one field

head_of_list : (a b : FieldRule) → a ∷ [] ≡ b ∷ [] → a ≡ b
head_of_list a b e = ap (λ (fs : List FieldRule). get_or fs 0 a) e

one_item : (rules : List Field) (d : Field) → 1 ≤ length rules → length rules < 2 → map field_rule rules ≡ field_rule (get_or rules 0 d) ∷ []
one_item [] d some few = absurd (omega arith)
one_item (r ∷ []) d some few = refl
one_item (r ∷ s ∷ rules) d some few = absurd (omega arith)

pub only_field : (kind : ParamKind) (rules : List Field) (d : Field) → is_tv kind ≡ true → map field_rule rules ≡ fields_of (Parameter kind) → 1 ≤ length rules → length rules < 2 → IsOnlyField kind (field_rule (get_or rules 0 d))
only_field kind rules d tv e some few =
    let rule = field_rule (get_or rules 0 d) in
    let f = tv_field kind tv in
    let fields : fields_of (Parameter kind) ≡ rule ∷ [] = sym e ∙ one_item rules d some few in
    let same : f.0 ≡ rule = head_of_list f.0 rule (sym f.1 ∙ fields) in
    record {
      tv = tv;
      fields = fields;
      plain = ap (λ (r : FieldRule). r.reserved) (sym same) ∙ f.2;
      greatest = subst (λ (r : FieldRule). r.greatest ≡ 2 ^ r.width - 1) same f.3;
    }

-- ---- its tests and its octets

one_value : (rule : FieldRule) (value : ℕ) → rule.reserved ≡ false → values_fit (rule ∷ []) (value ∷ []) ≡ nat_le value rule.greatest
one_value rule value plain = rw plain (and_true (nat_le value rule.greatest))
  where
    and_true : (b : Bool) → (b && true) ≡ b
    and_true true = refl
    and_true false = refl

no_tail_fits : (form : Tail) (value : ℕ) → form ≡ Absent → tail_fits form (value ∷ []) [] ≡ true
no_tail_fits form value e = ap (λ (f : Tail). tail_fits f (value ∷ []) []) e

last_passes : (b : Bool) → first_failed ((b, Value) ∷ (true, BadTail) ∷ []) ≡ first_failed ((b, Value) ∷ [])
last_passes true = refl
last_passes false = refl

pub one_test : (kind : ParamKind) (rule : FieldRule) (value : ℕ) (fault : Option NodeFault) → IsOnlyField kind rule → fault ≡ first_failed ((nat_le value rule.greatest, Value) ∷ [])
    → fault ≡ first_failed ((values_fit (fields_of (Parameter kind)) (value ∷ []), Value) ∷ (tail_fits (tail_of (Parameter kind)) (value ∷ []) [], BadTail) ∷ [])
one_test kind rule value fault o e =
    let v : values_fit (fields_of (Parameter kind)) (value ∷ []) ≡ nat_le value rule.greatest = ap (λ (fs : List FieldRule). values_fit fs (value ∷ [])) o.fields ∙ one_value rule value o.plain in
    let t : tail_fits (tail_of (Parameter kind)) (value ∷ []) [] ≡ true = no_tail_fits (tail_of (Parameter kind)) value (tv_tail kind o.tv) in
    e ∙ sym (ap (λ (b : Bool). first_failed ((b, Value) ∷ (tail_fits (tail_of (Parameter kind)) (value ∷ []) [], BadTail) ∷ [])) v ∙ ap (λ (b : Bool). first_failed ((nat_le value rule.greatest, Value) ∷ (b, BadTail) ∷ [])) t ∙ last_passes (nat_le value rule.greatest))

no_count : (form : Tail) → form ≡ Absent → count_octets form ≡ 0
no_count form e = ap count_octets e

pub few_octets : (kind : ParamKind) (rule : FieldRule) → IsOnlyField kind rule → 1 + rule.width / 8 ≡ min (own_octets (Parameter kind) []) MOST
unfolding body_octets
few_octets kind rule o = omega (arith, head_bits kind rule o, field_width kind rule o, few_width kind rule o, no_count (tail_of (Parameter kind)) (tv_tail kind o.tv))

-- a value that passes its test has the field's bits
pub value_below : (kind : ParamKind) (rule : FieldRule) (value : ℕ) (fault : Option NodeFault) → IsOnlyField kind rule → fault ≡ first_failed ((nat_le value rule.greatest, Value) ∷ []) → fault ≡ None → value < 2 ^ rule.width
value_below kind rule value fault o e none = lt_of_le_ones rule.width (subst (λ (most : ℕ). value ≤ most) o.greatest (leb-true value rule.greatest (on (nat_le value rule.greatest) (sym e ∙ none))))
  where
    on : (b : Bool) → first_failed ((b, Value) ∷ []) ≡ None → b ≡ true
    on true h = refl
    on false h = absurd cc

-- ---- a line of one value without a tail

pub one_number : (values : List ℕ) (d : ℕ) → 1 ≤ length values → length values < 2 → values ≡ get_or values 0 d ∷ []
one_number [] d some few = absurd (omega arith)
one_number (v ∷ []) d some few = refl
one_number (v ∷ w ∷ values) d some few = absurd (omega arith)

pub no_items : (tail : List ℕ) → length tail ≡ 0 → tail ≡ []
no_items [] e = refl
no_items (b ∷ tail) e = absurd (omega (arith, e))
