-- A parameter of type and value is lawful, and what it adds to the open nodes of a builder.
use Rattle.std.proofs.Common.{◌≡◌, ℕ, ◌-◌, ◌^◌, ◌<◌, ◌≤◌, true, false, List, [], ◌∷◌, length, map, refl, sym, ap, subst, ◌∙◌, arith}
use Rattle.std.specs.Prelude.{Result, Ok, Err, OnOk}
use Rattle.std.proofs.lemmas.List.Sums.{sum_by-cons}
use Rattle.llrp_schema.specs.declared.kinds.ParamKind.{ParamKind}
use Rattle.llrp_schema.specs.declared.kinds.Kind.TheVariants.{Parameter}
use Rattle.llrp_schema.specs.declared.kinds.Tail.{Tail}
use Rattle.llrp_schema.specs.Schema.{FieldRule, GroupRule, bits_of, fields_of, plain_fields_of, is_tv}
use Rattle.llrp_schema.proofs.TableLaws.{tv_field, tv_tail, tv_groups, few_bits}
use Rattle.llrp_tree.specs.Tree.{none}
use Rattle.llrp_tree.specs.Lawful.{AreInRange, IsTail, ArePlaced, NoneTooMany, NoneMissing, count_octets, head_octets, body_octets, AreLawful, AllLawful}
use Rattle.llrp_tree.proofs.Leading.{plain}
use Rattle.llrp_tree.specs.OpenTree.{Begun}
use Rattle.llrp_stream.specs.Calls.Received.{with_value, IsNextValue}
use Rattle.llrp_stream.specs.Building.{OpenParts, Building}
use Rattle.llrp_stream.specs.Private.Building.{HasHeader, HasOpen, parts_of}
use Rattle.llrp_stream.specs.Private.OpenNodes.{with_parameter}

one_in_range : (r : FieldRule) (value : ℕ) → r.reserved ≡ false → r.greatest ≡ 2 ^ r.width - 1 → value < 2 ^ bits_of (r ∷ []) → AreInRange (plain (r ∷ [])) (value ∷ [])
one_in_range r value e g fit =
    let one : plain (r ∷ []) ≡ r ∷ [] = rw e refl in
    let w : bits_of (r ∷ []) ≡ r.width = sum_by-cons (λ (x : FieldRule). x.width) r [] ∙ omega arith in
    let f : value < 2 ^ r.width = subst (λ (n : ℕ). value < 2 ^ n) w fit in
    subst (λ (rs : List FieldRule). AreInRange rs (value ∷ [])) (sym one) (omega (arith, f, g), tt)

pub value_in_range : (k : ParamKind) (value : ℕ) → is_tv k ≡ true → value < 2 ^ bits_of (fields_of (Parameter k)) → AreInRange (plain_fields_of (Parameter k)) (value ∷ [])
value_in_range k value e fit =
    let f = tv_field k e in
    subst (λ (rs : List FieldRule). AreInRange (plain rs) (value ∷ [])) (sym f.1) (one_in_range f.0 value f.2 f.3 (subst (λ (rs : List FieldRule). value < 2 ^ bits_of rs) f.1 fit))

no_groups_placed : ArePlaced [] none
unfolding ArePlaced
no_groups_placed = tt

none_too_many : NoneTooMany [] none
unfolding NoneTooMany
none_too_many = tt

none_missing : NoneMissing [] none
unfolding NoneMissing
none_missing = tt

tv_body : (k : ParamKind) → is_tv k ≡ true → body_octets (Parameter k) [] ≤ 12
unfolding body_octets
tv_body k e =
    let few = few_bits (Parameter k) in
    let t = ap count_octets (tv_tail k e) in
    omega (arith, few, t)

pub value_lawful : (k : ParamKind) (value : ℕ) → is_tv k ≡ true → value < 2 ^ bits_of (fields_of (Parameter k)) → AreLawful k (value ∷ []) [] none × AllLawful none
value_lawful k value e fit =
    let one : head_octets k ≡ 1 = rw e refl in
    let body = tv_body k e in (
      record {
        obeys = record {
          ranges = value_in_range k value e fit;
          form = subst (λ (t : Tail). IsTail t (value ∷ []) []) (sym (tv_tail k e)) refl;
          bytes = tt;
          placed = subst (λ (gs : List GroupRule). ArePlaced gs none) (sym (tv_groups k e)) no_groups_placed;
          most = subst (λ (gs : List GroupRule). NoneTooMany gs none) (sym (tv_groups k e)) none_too_many;
          least = subst (λ (gs : List GroupRule). NoneMissing gs none) (sym (tv_groups k e)) none_missing;
        };
        deep = omega arith;
        long = omega (arith, one, body);
      },
      tt,
    )

-- the same node with one child more has the same header
same_header : (version id : ℕ) (k : ParamKind) (value : ℕ) (t : List Begun) → HasHeader version id t → HasHeader version id (with_value k value t)
same_header version id k value [] h = h
same_header version id k value (b ∷ []) h = h
same_header version id k value (b ∷ p ∷ outer) h = h

more_parts : (k : ParamKind) (value : ℕ) (t : List Begun) → with_parameter k value (map parts_of t) ≡ map parts_of (with_value k value t)
more_parts k value [] = refl
more_parts k value (b ∷ outer) = refl

pub valued : (b : Building) (t : List Begun) (k : ParamKind) (value : ℕ) (new : List OpenParts) → HasOpen b t → new ≡ with_parameter k value b.nodes → HasOpen (record b { nodes = new }) (with_value k value t)
valued b t k value new h e = record {
  nodes = e ∙ ap (λ (ns : List OpenParts). with_parameter k value ns) h.nodes ∙ more_parts k value t;
  header = same_header b.version b.id k value t h.header;
}

pub valued_on_ok : {T E : Type 0} (r : Result T E) (b : Building) (k : ParamKind) (value level : ℕ) (new : List OpenParts) → OnOk r (new ≡ with_parameter k value b.nodes)
    → OnOk r (List ℕ → (t : List Begun) → HasOpen b t → length t ≡ level → IsNextValue t k value → HasOpen (record b { nodes = new }) (with_value k value t))
valued_on_ok (Ok x) b k value level new e = λ was t h l next. valued b t k value new h e
valued_on_ok (Err x) b k value level new e = tt
