-- Children by the bits of their groups.
use Rattle.std.proofs.Common.{◌≡◌, ◌≢◌, ℕ, zero, suc, ◌+◌, ◌<◌, ◌≤◌, ◌==◌, ◌⊎◌, inl, inr, Bool, true, false, List, [], ◌∷◌, length, get_or, Option, None, refl, sym, ap, subst, ◌∙◌, arith, bit_and, eqb-true}
use Rattle.std.specs.Prelude.{nat_le, min, if◌then◌else◌}
use Rattle.std.specs.Int.{bit_at}
use Rattle.std.specs.List.{list_all}
use Rattle.std.proofs.lemmas.Bool.{leb-true, leb-false, le-leb, lt-leb, cases_lt, eqb-false}
use Rattle.std.proofs.lemmas.Bool.Decides.{Decides-eqb}
use Rattle.std.proofs.lemmas.Nat.Bits.{bit_at_and, same_from_bits}
use Rattle.llrp_schema.specs.declared.kinds.ParamKind.{ParamKind}
use Rattle.llrp_schema.specs.declared.kinds.Kind.{Kind}
use Rattle.llrp_schema.specs.declared.kinds.Kind.TheVariants.{Parameter}
use Rattle.llrp_schema.specs.declared.kinds.Place.{Place}
use Rattle.llrp_schema.specs.Schema.{GroupRule, groups_of}
use Rattle.llrp_schema.specs.Calls.Places.{IsPlace, AreRequired}
use Rattle.llrp_schema.proofs.PlaceLemmas.{needs_one_at_most, takes_one_or_any}
use Rattle.llrp_tree.specs.Tree.{Forest, none, and}
use Rattle.llrp_tree.specs.Lawful.{count, is_member}
use Rattle.llrp_tree.specs.Lawful.{at_most}
use Rattle.llrp_tree.specs.Spelling.{Head, message, tlv, tv}
use Rattle.llrp_tree.specs.OpenTree.{Begun, kind_of_head, takes_more, is_enough}
use Rattle.llrp_tree.proofs.LawLemmas.{both}
use Rattle.llrp_tree.proofs.PlacedLemmas.{elsewhere, takes_in_place}
use Rattle.llrp_stream.specs.Calls.Received.{with_child}
use Rattle.llrp_stream.specs.declared.engine.body_reader.BodyReader.{BodyReader}
use Rattle.llrp_stream.specs.Calls.Reading.{AreSeen, HasReadTo, with_begun}

abbrev no_rule : GroupRule
no_rule = record { members = []; least = 0; most = None }

-- ---- one child more

abbrev bumped : Bool → ℕ → ℕ
bumped b n = if b then n + 1 else n

count_more : (g : GroupRule) (before : Forest) (k : ParamKind) (vs tail : List ℕ) (cs : Forest) → count g (and before k vs tail cs) ≡ bumped (is_member g k) (count g before)
unfolding count
count_more g before k vs tail cs = refl

-- what a node that is closed adds is what it added when it began
count_closed : (g : GroupRule) (before : Forest) (h : Head) (vs : List ℕ) (tail : Option (List ℕ)) (cs : Forest) → count g (with_begun before (kind_of_head h)) ≡ count g (with_child before h vs tail cs)
unfolding count
count_closed g before (message v k n id) vs tail cs = refl
count_closed g before (tlv k n) vs tail cs = refl
count_closed g before (tv k) vs tail cs = refl

pub seen_closed : (gs : List GroupRule) (before : Forest) (seen : ℕ) (h : Head) (vs : List ℕ) (tail : Option (List ℕ)) (cs : Forest) → AreSeen gs (with_begun before (kind_of_head h)) seen → AreSeen gs (with_child before h vs tail cs) seen
seen_closed gs before seen h vs tail cs are = λ k d lt. are k d lt ∙ ap (λ (n : ℕ). min 1 n) (count_closed (get_or gs k d) before h vs tail cs)

-- what a whole parameter of type and value adds is what it added when it began
pub seen_value : (gs : List GroupRule) (before : Forest) (kind : ParamKind) (v seen : ℕ) → AreSeen gs (with_begun before (Parameter kind)) seen → AreSeen gs (and before kind (v ∷ []) [] none) seen
unfolding count
seen_value gs before kind v seen are = are

-- what the engine keeps of the innermost node
pub seen_are : (r : BodyReader) (front : List ℕ) (b : Begun) (outer : List Begun) → HasReadTo r front b outer → AreSeen (groups_of r.top.kind) b.children r.top.seen.bits
seen_are r front b outer rd = subst (λ (k : Kind). AreSeen (groups_of k) b.children r.top.seen.bits) rd.level.kind rd.level.seen

-- ---- a child begins

module _ (parent : Kind) (kind : ParamKind) (place : Place) (p : IsPlace (groups_of parent) kind place) (cs : Forest) (seen : ℕ) (are : AreSeen (groups_of parent) cs seen) where
  abbrev rule : GroupRule
  rule = get_or (groups_of parent) place.index no_rule

  takes_here : takes_more (groups_of parent) kind cs ≡ at_most rule.most (count rule cs + 1)
  takes_here = takes_in_place (groups_of parent) kind place p cs no_rule

  seen_here : bit_at seen place.index ≡ min 1 (count rule cs)
  seen_here = are place.index no_rule p.within

  pub takes_not : place.once ≡ true → bit_at seen place.index ≡ 1 → takes_more (groups_of parent) kind cs ≡ false
  takes_not o s = takes_here ∙ ap (λ (m : Option ℕ). at_most m (count rule cs + 1)) (p.once no_rule o) ∙ lt-leb (count rule cs + 1) 1 (let h = seen_here in omega (arith, h, s))

  takes_any : place.once ≡ false → takes_more (groups_of parent) kind cs ≡ true
  takes_any o = takes_here ∙ ap (λ (m : Option ℕ). at_most m (count rule cs + 1)) (p.any no_rule o)

  takes_one : (bit_at seen place.index ≡ 1 → ⊥) → takes_more (groups_of parent) kind cs ≡ true
  takes_one f =
      let h = seen_here in
      let few : count rule cs + 1 ≤ 1 = elim (cases_lt 0 (count rule cs)) [ inl lt ↦ absurd (f (omega (arith, h, lt))) | inr le ↦ omega (arith, le) ] in
      takes_here ∙ (elim (takes_one_or_any parent place.index no_rule p.within) [
        | inl e ↦ ap (λ (m : Option ℕ). at_most m (count rule cs + 1)) e
        | inr e ↦ ap (λ (m : Option ℕ). at_most m (count rule cs + 1)) e ∙ le-leb (count rule cs + 1) 1 few
      ])

  pub takes_if : (place.once ≡ false) ⊎ (bit_at seen place.index ≡ 0) → takes_more (groups_of parent) kind cs ≡ true
  takes_if (inl o) = takes_any o
  takes_if (inr z) = takes_one (λ y. absurd (omega (arith, z, y)))

  pub seen_more : (after : ℕ) → bit_at after place.index ≡ 1 → ((k : ℕ) → k ≢ place.index → bit_at after k ≡ bit_at seen k) → (vs tail : List ℕ) (inner : Forest) → AreSeen (groups_of parent) (and cs kind vs tail inner) after
  seen_more after one others vs tail inner = λ k d lt.
      (elim (k == place.index) as (λ b. (k == place.index) ≡ b → bit_at after k ≡ min 1 (count (get_or (groups_of parent) k d) (and cs kind vs tail inner))) [
        | true ↦ λ e.
            let is : k ≡ place.index = eqb-true k place.index e in
            let m : is_member (get_or (groups_of parent) k d) kind ≡ true = subst (λ (j : ℕ). is_member (get_or (groups_of parent) j d) kind ≡ true) (sym is) (p.member d) in
            let more : count (get_or (groups_of parent) k d) (and cs kind vs tail inner) ≡ count (get_or (groups_of parent) k d) cs + 1 = count_more (get_or (groups_of parent) k d) cs kind vs tail inner ∙ ap (λ (b : Bool). bumped b (count (get_or (groups_of parent) k d) cs)) m in
            ap (λ (j : ℕ). bit_at after j) is ∙ one ∙ (let z = more in omega (arith, z))
        | false ↦ λ e.
            let other : k ≢ place.index = eqb-false k place.index e in
            let m : is_member (get_or (groups_of parent) k d) kind ≡ false = elsewhere (groups_of parent) kind place p k d lt other in
            let same : count (get_or (groups_of parent) k d) (and cs kind vs tail inner) ≡ count (get_or (groups_of parent) k d) cs = count_more (get_or (groups_of parent) k d) cs kind vs tail inner ∙ ap (λ (b : Bool). bumped b (count (get_or (groups_of parent) k d) cs)) m in
            others k other ∙ are k d lt ∙ ap (λ (n : ℕ). min 1 n) (sym same)
      ]) refl

-- ---- enough

all_at : (p : GroupRule → Bool) (gs : List GroupRule) (k : ℕ) (d : GroupRule) → list_all p gs ≡ true → k < length gs → p (get_or gs k d) ≡ true
all_at p [] k d e lt = absurd (omega (arith, lt))
all_at p (g ∷ gs) zero d e lt = (both (p g) (list_all p gs) e).0
all_at p (g ∷ gs) (suc k) d e lt = all_at p gs k d (both (p g) (list_all p gs) e).1 (omega (arith, lt))

all_enough : (gs : List GroupRule) (cs : Forest) → ((k : ℕ) (d : GroupRule) → k < length gs → (get_or gs k d).least ≤ count (get_or gs k d) cs) → is_enough gs cs ≡ true
unfolding is_enough
all_enough [] cs f = refl
all_enough (g ∷ gs) cs f =
    let here : nat_le g.least (count g cs) ≡ true = le-leb g.least (count g cs) (f 0 g (omega arith)) in
    let others : is_enough gs cs ≡ true = all_enough gs cs (λ k d lt. f (suc k) d (omega (arith, lt))) in
    rw (here, others) refl

each_enough : (gs : List GroupRule) (cs : Forest) (k : ℕ) (d : GroupRule) → is_enough gs cs ≡ true → k < length gs → (get_or gs k d).least ≤ count (get_or gs k d) cs
unfolding is_enough
each_enough gs cs k d e lt = leb-true (get_or gs k d).least (count (get_or gs k d) cs) (all_at (λ g. nat_le g.least (count g cs)) gs k d e lt)

module _ (parent : Kind) (cs : Forest) (seen required : ℕ) (are : AreSeen (groups_of parent) cs seen) (r : AreRequired (groups_of parent) required) where
  same_bits : is_enough (groups_of parent) cs ≡ true → (k : ℕ) → bit_at (bit_and seen required) k ≡ bit_at required k
  same_bits e k =
      let both_bits = bit_at_and seen required k in
      (elim (nat_le (length (groups_of parent)) k) as (λ b. nat_le (length (groups_of parent)) k ≡ b → bit_at (bit_and seen required) k ≡ bit_at required k) [
        | true ↦ λ le. let z = r.rest k (leb-true (length (groups_of parent)) k le) in omega (arith, both_bits, z)
        | false ↦ λ le.
            let lt : k < length (groups_of parent) = leb-false (length (groups_of parent)) k le in
            let n = each_enough (groups_of parent) cs k no_rule e lt in
            let s = are k no_rule lt in
            let l = r.least no_rule k lt in
            let o = needs_one_at_most parent k no_rule lt in
            omega (arith, both_bits, n, s, l, o)
      ]) refl

  enough_then : is_enough (groups_of parent) cs ≡ true → bit_and seen required ≡ required
  enough_then e = same_from_bits (bit_and seen required) required (same_bits e)

  then_enough : bit_and seen required ≡ required → is_enough (groups_of parent) cs ≡ true
  then_enough e = all_enough (groups_of parent) cs (λ k d lt.
      let both_bits = bit_at_and seen required k in
      let same = ap (λ (n : ℕ). bit_at n k) e in
      let s = are k d lt in
      let l = r.least d k lt in
      omega (arith, both_bits, same, s, l))

  pub enough_is : (b : Bool) → b ≡ (bit_and seen required == required) → b ≡ is_enough (groups_of parent) cs
  enough_is b is =
      is ∙ (elim (is_enough (groups_of parent) cs) as (λ x. is_enough (groups_of parent) cs ≡ x → (bit_and seen required == required) ≡ x) [
        | true ↦ λ e. (Decides-eqb (bit_and seen required) required).1 (enough_then e)
        | false ↦ λ e. (elim (bit_and seen required == required) as (λ y. (bit_and seen required == required) ≡ y → (bit_and seen required == required) ≡ false) [ true ↦ λ f. absurd (let g = then_enough (eqb-true (bit_and seen required) required f) in cc) | false ↦ λ f. f ]) refl
      ]) refl
