-- A parameter of type and value, as one step of the open tree that is read.
use Rattle.std.proofs.Common.{◌≡◌, ℕ, ◌+◌, ◌-◌, ◌*◌, ◌%◌, ◌^◌, ◌<◌, ◌≤◌, Bool, true, List, [], ◌∷◌, ◌++◌, length, drop, map, None, false, refl, sym, ap, subst, ◌∙◌, arith, length-drop}
use Rattle.std.specs.Prelude.{nat_le, nat_eq, get_or, if◌then◌else◌}
use Rattle.std.proofs.lemmas.Bool.{le-leb}
use Rattle.std.proofs.lemmas.List.Sums.{sum_by-cons}
use Rattle.tag_bits.specs.Digits.{digits_of_bytes}
use Rattle.llrp_schema.specs.declared.kinds.Field.{Field}
use Rattle.llrp_schema.specs.declared.kinds.Kind.{Kind}
use Rattle.llrp_schema.specs.declared.kinds.Kind.TheVariants.{Parameter}
use Rattle.llrp_schema.specs.declared.kinds.ParamKind.{ParamKind}
use Rattle.llrp_schema.specs.declared.kinds.Tail.{Tail}
use Rattle.llrp_schema.specs.Schema.{set_of_kind, FieldRule, GroupRule, fields_of, tail_of, groups_of, bits_of, is_tv}
use Rattle.llrp_schema.specs.Calls.Schema.{field_rule}
use Rattle.llrp_schema.proofs.TableLaws.{tv_field, tv_tail, tv_groups, field_widths, whole_octets}
use Rattle.llrp_tree.specs.Tree.{none, and}
use Rattle.llrp_tree.specs.Spelling.{tv}
use Rattle.llrp_tree.specs.OpenTree.{Begun, due, Rest, field_due, tail_due, in_range, plain_values, is_enough, takes_more, MayBegin}
use Rattle.llrp_tree.specs.Lawful.{has_place}
use Rattle.llrp_tree.specs.FirstFault.{number, first_digit, tv_kind}
use Rattle.llrp_tree.specs.Calls.Standing.{IsAt, begin_node, leading}
use Rattle.llrp_tree.specs.Private.Standing.{Closes, KindPasses, is_tv_kind}
use Rattle.llrp_tree.proofs.ChildLemmas.{tv_begun}
use Rattle.llrp_tree.proofs.ReadingLemmas.{field_grows}
use Rattle.llrp_tree.proofs.Totality.{child_closes}
use Rattle.llrp_stream.specs.declared.engine.body_reader.BodyReader.{BodyReader}
use Rattle.llrp_stream.specs.declared.engine.body_reader.Stage.TheVariants.{Children}
use Rattle.llrp_stream.specs.Calls.Front.{Reaches}
use Rattle.llrp_stream.specs.Calls.Received.{IsNextValue}
use Rattle.llrp_stream.specs.Calls.Reading.{HasReadTo}
use Rattle.llrp_stream.proofs.Reached.{reaches_in, seen}
use Rattle.llrp_stream.proofs.ChildPart.{resting, stands_now}
use Rattle.llrp_stream.proofs.ValueLemmas.{value_in_range}

-- ---- the one field of such a kind

some_field : (fs : List Field) (rs : List FieldRule) (r : FieldRule) → map field_rule fs ≡ rs → rs ≡ r ∷ [] → 0 < length fs
some_field [] rs r e f = absurd (let z = ap (λ (x : List FieldRule). length x) (e ∙ f) in omega (arith, z))
some_field (x ∷ xs) rs r e f = omega arith

first_width : (fs : List Field) (rs : List FieldRule) (r : FieldRule) (d : Field) → map field_rule fs ≡ rs → rs ≡ r ∷ [] → (get_or fs 0 d).width ≡ r.width
first_width [] rs r d e f = absurd (let z = ap (λ (x : List FieldRule). length x) (e ∙ f) in omega (arith, z))
first_width (x ∷ xs) rs r d e f = ap (λ (y : List FieldRule). (get_or y 0 r).width) (e ∙ f)

none_needed : (gs : List GroupRule) → gs ≡ [] → is_enough gs none ≡ true
unfolding is_enough
none_needed gs e = ap (λ (x : List GroupRule). is_enough x none) e

-- What is known of the width of the value.
pub record IsWidth (k : ParamKind) (w : ℕ) : Type 0 where
  pub some : 1 ≤ w
  pub most : w ≤ 96
  pub octets : w % 8 ≡ 0

module _ (k : ParamKind) (short : is_tv k ≡ true) where
  abbrev rule : FieldRule
  rule = (tv_field k short).0

  fields_are : fields_of (Parameter k) ≡ rule ∷ []
  fields_are = (tv_field k short).1

  bits_are : bits_of (fields_of (Parameter k)) ≡ rule.width
  bits_are = ap bits_of fields_are ∙ (let s = sum_by-cons (λ (r : FieldRule). r.width) rule [] in omega (arith, s))

  pub has_field : (fs : List Field) → map field_rule fs ≡ fields_of (Parameter k) → 0 < length fs
  has_field fs e = some_field fs (fields_of (Parameter k)) rule e fields_are

  pub field_width : (fs : List Field) (d : Field) → map field_rule fs ≡ fields_of (Parameter k) → (get_or fs 0 d).width ≡ bits_of (fields_of (Parameter k))
  field_width fs d e = first_width fs (fields_of (Parameter k)) rule d e fields_are ∙ sym bits_are

  pub width_is : IsWidth k (bits_of (fields_of (Parameter k)))
  width_is =
      let f = subst (λ (x : List FieldRule). (1 ≤ (get_or x 0 rule).width) × ((get_or x 0 rule).width ≤ 96)) fields_are (field_widths (Parameter k) 0 rule (let l = ap (λ (x : List FieldRule). length x) fields_are in omega (arith, l))) in
      let b = bits_are in
      let m = whole_octets (Parameter k) in
      record { some = omega (arith, b, f.0); most = omega (arith, b, f.1); octets = omega (arith, m) }

  field_in_range : (v : ℕ) → v < 2 ^ rule.width → in_range rule v ≡ true
  field_in_range v lt =
      let g = (tv_field k short).3 in
      ap (λ (b : Bool). if b then nat_eq v 0 else nat_le v rule.greatest) (tv_field k short).2 ∙ le-leb v rule.greatest (omega (arith, g, lt))

  value_due : (stop v : ℕ) → due (leading (tv k) stop (v ∷ [])) ≡ Rest
  unfolding due
  value_due stop v =
      ap (λ (x : List FieldRule). field_due (drop 1 x) (tail_due (tail_of (Parameter k)) None)) fields_are
      ∙ ap (λ (x : Tail). tail_due x None) (tv_tail k short)

  value_enough : is_enough (groups_of (Parameter k)) none ≡ true
  value_enough = none_needed (groups_of (Parameter k)) (tv_groups k short)

  plain_is : (v : ℕ) → plain_values (fields_of (Parameter k)) (v ∷ []) ≡ v ∷ []
  plain_is v = ap (λ (x : List FieldRule). plain_values x (v ∷ [])) fields_are ∙ ap (λ (b : Bool). if b then [] else v ∷ []) (tv_field k short).2

  -- ---- it comes next

  module _ (r : BodyReader) (front : List ℕ) (b : Begun) (outer : List Begun) (rd : HasReadTo r front b outer) (s : r.stage ≡ Children) (octets : List ℕ) (d : drop r.at front ≡ octets) (long : is_tv_kind r.top.kind ≡ false)
      (passes : (later : List Bool) → (first_digit (digits_of_bytes octets ++ later) ≡ true) × KindPasses (tv_kind (set_of_kind r.top.kind) (digits_of_bytes octets ++ later)) (groups_of r.top.kind) b.children (length outer + 1) k) where
    here : (more : List ℕ) → drop (8 * r.at) (digits_of_bytes (front ++ more)) ≡ digits_of_bytes octets ++ digits_of_bytes more
    here more = ap (λ (n : ℕ). drop n (digits_of_bytes (front ++ more))) (let z : 8 * r.at ≡ 8 * r.at + 0 = omega arith in z) ∙ seen front more octets r.at 0 rd.before d

    begun_in : (more : List ℕ) → length (front ++ more) ≡ r.octets → 8 * r.at < b.stop → IsAt (digits_of_bytes (front ++ more)) (leading (tv k) b.stop [] ∷ b ∷ outer) (8 * r.at + 8)
    begun_in more long_is lt =
        let ds : List Bool = digits_of_bytes (front ++ more) in
        let P : List Bool → Type 0 = λ rest. (first_digit rest ≡ true) × KindPasses (tv_kind (set_of_kind r.top.kind) rest) (groups_of r.top.kind) b.children (length outer + 1) k in
        let g : P (drop (8 * r.at) ds) = subst P (sym (here more)) (passes (digits_of_bytes more)) in
        tv_begun ds b.head b.stop b.fields b.tail b.children outer (8 * r.at) r.top.kind (length outer) rd.level.kind refl (resting r front b outer rd s).ready (stands_now r front b outer rd s more long_is) lt long k g.0 g.1

    pub may_begin : MayBegin b k
    may_begin =
        let p = (passes []).1 in
        record {
          ready = (resting r front b outer rd s).ready;
          has = subst (λ (j : Kind). has_place (groups_of j) k ≡ true) (sym rd.level.kind) p.has;
          more = subst (λ (j : Kind). takes_more (groups_of j) k b.children ≡ true) (sym rd.level.kind) p.takes;
        }

    pub is_next_value : (v : ℕ) → v < 2 ^ bits_of (fields_of (Parameter k)) → IsNextValue (b ∷ outer) k v
    is_next_value v fits = record { node = b; outer = outer; tree_is = refl; may_begin = may_begin; range = value_in_range k v short fits }

    module _ (v : ℕ) (room : 8 * r.at + 8 + bits_of (fields_of (Parameter k)) ≤ 8 * r.top.stop) (within : 8 + bits_of (fields_of (Parameter k)) ≤ 8 * length octets)
        (is : (later : List Bool) → v ≡ number (digits_of_bytes octets ++ later) 8 (bits_of (fields_of (Parameter k)))) (fits : v < 2 ^ bits_of (fields_of (Parameter k))) where
      pub value_reaches : Reaches r.set front r.octets (begin_node b.head b.stop b.fields b.tail (and b.children k (v ∷ []) [] none) ∷ outer) (8 * r.at + 8 + bits_of (fields_of (Parameter k)))
      value_reaches =
          let width = bits_are in
          let lo : length octets ≡ length front - r.at = sym (ap (λ (x : List ℕ). length x) d) ∙ length-drop r.at front in
          let fits_rule : v < 2 ^ rule.width = subst (λ (n : ℕ). v < 2 ^ n) width fits in
          reaches_in front r.octets (begin_node b.head b.stop b.fields b.tail (and b.children k (v ∷ []) [] none) ∷ outer) (8 * r.at + 8 + bits_of (fields_of (Parameter k))) (resting r front b outer rd s).reaches.fits (omega (arith, rd.before, lo, within)) (resting r front b outer rd s).reaches.root (λ more long_is.
          let ds : List Bool = digits_of_bytes (front ++ more) in
          let there : drop (8 * r.at + 8) ds ≡ drop 8 (digits_of_bytes octets ++ digits_of_bytes more) = seen front more octets r.at 8 rd.before d in
          let st = field_grows ds (Parameter k) (tv k) b.stop [] (v ∷ []) (b ∷ outer) (8 * r.at + 8) rule [] v refl fields_are (omega (arith, rd.level.stop, room, width)) (is (digits_of_bytes more) ∙ ap (λ (n : ℕ). number (digits_of_bytes octets ++ digits_of_bytes more) 8 n) width ∙ ap (λ (x : List Bool). number x 0 rule.width) (sym there)) (field_in_range v fits_rule) refl (begun_in more long_is (omega (arith, rd.level.stop, room))) in
          let c : Closes ds (leading (tv k) b.stop (v ∷ [])) (b ∷ outer) (8 * r.at + 8 + rule.width) = record { stands = st; ready = value_due b.stop v; over = refl; enough = value_enough } in
          let cl = child_closes ds b.head b.stop b.fields b.tail b.children (v ∷ []) None none outer (8 * r.at + 8 + rule.width) (tv k) b.stop c in
          subst (λ (n : ℕ). IsAt ds (begin_node b.head b.stop b.fields b.tail (and b.children k (v ∷ []) [] none) ∷ outer) (8 * r.at + 8 + n)) (sym width) (subst (λ (x : List ℕ). IsAt ds (begin_node b.head b.stop b.fields b.tail (and b.children k x [] none) ∷ outer) (8 * r.at + 8 + rule.width)) (plain_is v) cl))
