-- The first group of a parent that has a kind is the only one.
use Rattle.std.proofs.Common.{◌≡◌, ℕ, zero, suc, ◌+◌, ◌*◌, ◌/◌, ◌<◌, ◌≤◌, nat_le, nat_eq, is_some, IfSome, IfNone, ◌⊎◌, inl, inr, Bool, true, false, not, ◌||◌, List, [], ◌∷◌, Option, Some, None, MatchOption, length, get_or, ◌==◌, refl, sym, ap, ◌∙◌, arith, eqb-true, if◌then◌else◌}
use Rattle.std.proofs.lemmas.Bool.{and_parts, leb-true}
use Rattle.std.specs.Int.{bit_at}
use Rattle.std.proofs.lemmas.Nat.Bits.{bit_at_lowest, bit_at-suc, bit_at-zero}
use Rattle.std.specs.List.{list_all, list_any, All}
use Rattle.std.specs.Bool.{Decides}
use Rattle.std.proofs.lemmas.Bool.Decides.{Decides-eqb, Decides-like, same_from_decides}
use denote.Enum.Bare.{sameb, same_true, true_same}
use Rattle.llrp_schema.specs.contracts.kinds.ParamKind.{the_type}
use Rattle.llrp_schema.specs.declared.kinds.ParamKind.{ParamKind}
use Rattle.llrp_schema.specs.declared.kinds.Kind.{Kind}
use Rattle.llrp_schema.specs.declared.kinds.Kind.TheVariants.{Parameter}
use Rattle.llrp_schema.specs.declared.kinds.Place.{Place}
use Rattle.llrp_schema.specs.declared.kinds.KindSet.{KindSet}
use Rattle.llrp_schema.specs.declared.kinds.KindSet.TheVariants.{Profile, Standard}
use Rattle.llrp_schema.specs.Schema.{GroupRule, number_of, groups_of, rule_of, message_rule, param_rule, message_kinds, param_kinds, whole_message_kinds, whole_param_kinds, key_of, set_of_kind}
use Rattle.llrp_schema.specs.Schema.{is_member, has_place}
use Rattle.llrp_schema.specs.Calls.Places.{IsPlace, AreRequired}
use Rattle.llrp_schema.specs.Private.Places.{further, first_place, least_bits}
use Rattle.llrp_schema.proofs.SchemaLemmas.{not_true, pairs_all, All-from_list_all}
use Rattle.llrp_schema.proofs.TableLaws.{param_keys, every_rule}

-- the most of a group is one, where there is a bound
abbrev pub is_one : Option ℕ → Bool
is_one None = true
is_one (Some most) = nat_eq most 1

-- whether two groups share no kind
abbrev pub share_none : GroupRule → GroupRule → Bool
share_none g h = list_all (λ kind. not (is_member h kind)) g.members

-- no two groups of one parent share a kind
pub parent_apart : (parent : Kind) → pairs_all share_none (groups_of parent) ≡ true
unfolding groups_of rule_of message_rule param_rule message_kinds param_kinds whole_message_kinds whole_param_kinds number_of key_of set_of_kind
parent_apart parent = every_rule (λ row. pairs_all share_none row.groups) (refl, refl) (refl, refl) parent

-- a group that shares none with one that has the kind has it not
lacks : (kind : ParamKind) (h : GroupRule) (members : List ParamKind) → list_all (λ m. not (is_member h m)) members ≡ true → list_any (λ m. key_of m == key_of kind) members ≡ true → is_member h kind ≡ false
lacks kind h [] none has = absurd cc
lacks kind h (m ∷ members) none has =
    let p = and_parts (not (is_member h m)) (list_all (λ k. not (is_member h k)) members) none in
    (elim (key_of m == key_of kind) as (λ b. (key_of m == key_of kind) ≡ b → (b || list_any (λ k. key_of k == key_of kind) members) ≡ true → is_member h kind ≡ false) [
      | true ↦ λ e rest. ap (λ k. is_member h k) (sym (param_keys m kind (eqb-true (key_of m) (key_of kind) e))) ∙ not_true (is_member h m) p.0
      | false ↦ λ e rest. lacks kind h members p.1 rest
    ]) refl has

-- no later group has the kind of one with which all later ones share none
no_later : (g : GroupRule) (groups : List GroupRule) (kind : ParamKind) → is_member g kind ≡ true → list_all (share_none g) groups ≡ true → (d : GroupRule) (i : ℕ) → i < length groups → is_member (get_or groups i d) kind ≡ true → ⊥
no_later g [] kind has apart d i below also = absurd (omega arith)
no_later g (h ∷ groups) kind has apart d zero below also =
    let p = and_parts (share_none g h) (list_all (share_none g) groups) apart in
    let lacking = lacks kind h g.members p.0 has in cc
no_later g (h ∷ groups) kind has apart d (suc i) below also =
    let p = and_parts (share_none g h) (list_all (share_none g) groups) apart in
    no_later g groups kind has p.1 d i (omega arith) also

-- what follows from that test
once_is_one : (most : Option ℕ) → is_one most ≡ true → is_some most ≡ true → most ≡ Some 1
once_is_one None test once = cc once
once_is_one (Some most) test once = ap (λ (n : ℕ). Some n) (eqb-true most 1 test)

any_is_none : (most : Option ℕ) → is_some most ≡ false → most ≡ None
any_is_none None any = refl
any_is_none (Some most) any = cc any

-- the first of some groups has the kind
here : (g : GroupRule) (groups : List GroupRule) (kind : ParamKind) → is_member g kind ≡ true → list_all (share_none g) groups ≡ true → is_one g.most ≡ true → IsPlace (g ∷ groups) kind (record { index = 0; once = is_some g.most })
here g groups kind has apart one = record {
  placed = ap (λ (b : Bool). b || has_place groups kind) has;
  within = omega arith;
  member = λ d. has;
  alone = λ d k. alone d k;
  once = λ d. once_is_one g.most one;
  any = λ d. any_is_none g.most;
}
  where
    alone : (d : GroupRule) (k : ℕ) → k < length (g ∷ groups) → is_member (get_or (g ∷ groups) k d) kind ≡ true → k ≡ 0
    alone d zero below also = refl
    alone d (suc k) below also = absurd (no_later g groups kind has apart d k (omega arith) also)

-- a place among the groups after one that has not the kind
there : (g : GroupRule) (groups : List GroupRule) (kind : ParamKind) (place : Place) → is_member g kind ≡ false → IsPlace groups kind place → IsPlace (g ∷ groups) kind (record { index = suc place.index; once = place.once })
there g groups kind place lacking is = record {
  placed = ap (λ (b : Bool). b || has_place groups kind) lacking ∙ is.placed;
  within = omega (arith, is.within);
  member = λ d. is.member d;
  alone = λ d k. alone d k;
  once = λ d. is.once d;
  any = λ d. is.any d;
}
  where
    alone : (d : GroupRule) (k : ℕ) → k < length (g ∷ groups) → is_member (get_or (g ∷ groups) k d) kind ≡ true → k ≡ suc place.index
    alone d zero below also = absurd cc
    alone d (suc k) below also = ap (λ (n : ℕ). suc n) (is.alone d k (omega arith) also)

-- the place of the first group that has the kind is the only one
pub first_is_place : (groups : List GroupRule) (kind : ParamKind) → pairs_all share_none groups ≡ true → list_all (λ g. is_one g.most) groups ≡ true → MatchOption (first_place groups kind) (has_place groups kind ≡ false) (IsPlace groups kind)
first_is_place [] kind apart one = refl
first_is_place (g ∷ groups) kind apart one =
    let p = and_parts (list_all (share_none g) groups) (pairs_all share_none groups) apart in
    let o = and_parts (is_one g.most) (list_all (λ h. is_one h.most) groups) one in
    (elim (is_member g kind) as (λ b. is_member g kind ≡ b → MatchOption (if b then Some (record { index = 0; once = is_some g.most }) else further (first_place groups kind)) ((b || has_place groups kind) ≡ false) (IsPlace (g ∷ groups) kind)) [
      | true ↦ λ has. here g groups kind has p.0 o.0
      | false ↦ λ lacking. (elim (first_place groups kind) as (λ found. MatchOption found (has_place groups kind ≡ false) (IsPlace groups kind) → MatchOption (further found) (has_place groups kind ≡ false) (IsPlace (g ∷ groups) kind)) [
        | None ↦ λ none. none
        | Some place ↦ λ is. there g groups kind place lacking is
      ]) (first_is_place groups kind p.1 o.1)
    ]) refl

-- the bit of a later group, after that of the first
later_bit : (least bits k : ℕ) → least ≤ 1 → bit_at (least + 2 * bits) (suc k) ≡ bit_at bits k
later_bit least bits k few = (let half : (least + 2 * bits) / 2 ≡ bits = omega arith in bit_at-suc (least + 2 * bits) k ∙ ap (λ (n : ℕ). bit_at n k) half)

first_bit : (least bits : ℕ) → least ≤ 1 → bit_at (least + 2 * bits) 0 ≡ least
first_bit least bits few = bit_at_lowest (least + 2 * bits) ∙ omega arith

-- bits with those of one group more before them
one_more : (g : GroupRule) (groups : List GroupRule) (bits : ℕ) → g.least ≤ 1 → AreRequired groups bits → AreRequired (g ∷ groups) (g.least + 2 * bits)
one_more g groups bits few are = record { least = λ d k. least d k; rest = λ k. rest k }
  where
    least : (d : GroupRule) (k : ℕ) → k < length (g ∷ groups) → bit_at (g.least + 2 * bits) k ≡ (get_or (g ∷ groups) k d).least
    least d zero below = first_bit g.least bits few
    least d (suc k) below = later_bit g.least bits k few ∙ are.least d k (omega arith)

    rest : (k : ℕ) → length (g ∷ groups) ≤ k → bit_at (g.least + 2 * bits) k ≡ 0
    rest zero past = absurd (omega arith)
    rest (suc k) past = later_bit g.least bits k few ∙ are.rest k (omega arith)

none_below : (k : ℕ) → k < 0 → ⊥
none_below k below = omega arith

-- least numbers of 0 and 1 are their own bits
pub least_are_required : (groups : List GroupRule) → list_all (λ g. nat_le g.least 1) groups ≡ true → AreRequired groups (least_bits groups)
least_are_required [] few = record { least = λ d k below. absurd (none_below k below); rest = λ k past. bit_at-zero k }
least_are_required (g ∷ groups) few =
    let p = and_parts (nat_le g.least 1) (list_all (λ h. nat_le h.least 1) groups) few in
    one_more g groups (least_bits groups) (leb-true g.least 1 p.0) (least_are_required groups p.1)

-- a group takes one child at most, or any number of them
pub parent_takes_one : (parent : Kind) → list_all (λ g. is_one g.most) (groups_of parent) ≡ true
unfolding groups_of rule_of message_rule param_rule message_kinds param_kinds whole_message_kinds whole_param_kinds
parent_takes_one parent = every_rule (λ row. list_all (λ g. is_one g.most) row.groups) (refl, refl) (refl, refl) parent

-- a group needs one child at most
pub parent_needs_one : (parent : Kind) → list_all (λ g. nat_le g.least 1) (groups_of parent) ≡ true
unfolding groups_of rule_of message_rule param_rule message_kinds param_kinds whole_message_kinds whole_param_kinds
parent_needs_one parent = every_rule (λ row. list_all (λ g. nat_le g.least 1) row.groups) (refl, refl) (refl, refl) parent

-- what follows from the tests of a group's numbers
one_or_any : (most : Option ℕ) → is_one most ≡ true → (most ≡ None) ⊎ (most ≡ Some 1)
one_or_any None test = inl refl
one_or_any (Some most) test = inr (ap (λ (n : ℕ). Some n) (eqb-true most 1 test))

pub needs_one_at_most : (kind : Kind) → All (λ group. group.least ≤ 1) (groups_of kind)
needs_one_at_most kind = All-from_list_all (λ group. nat_le group.least 1) (λ group. group.least ≤ 1) (λ group. leb-true group.least 1) (groups_of kind) (parent_needs_one kind)

pub takes_one_or_any : (kind : Kind) → All (λ group. (group.most ≡ None) ⊎ (group.most ≡ Some 1)) (groups_of kind)
takes_one_or_any kind = All-from_list_all (λ group. is_one group.most) (λ group. (group.most ≡ None) ⊎ (group.most ≡ Some 1)) (λ group. one_or_any group.most) (groups_of kind) (parent_takes_one kind)

-- a kind has 15 groups at most
pub few_groups : (kind : Kind) → length (groups_of kind) ≤ 18
unfolding groups_of rule_of message_rule param_rule message_kinds param_kinds whole_message_kinds whole_param_kinds
few_groups kind = leb-true (length (groups_of kind)) 18 (every_rule (λ row. nat_le (length row.groups) 18) (refl, refl) (refl, refl) kind)

-- what is said of a place, where there is none
pub place_none : (found : Option Place) (N : Type 0) (P : Place → Type 0) → MatchOption found N P → IfNone found N
place_none None N P says = says
place_none (Some place) N P says = tt

-- and where there is one
pub place_some : (found : Option Place) (N : Type 0) (P : Place → Type 0) → MatchOption found N P → IfSome found P
place_some None N P says = tt
place_some (Some place) N P says = says

-- whether two profiles are the same
abbrev same_set : KindSet → KindSet → Bool
same_set Profile Profile = true
same_set Profile Standard = false
same_set Standard Profile = false
same_set Standard Standard = true

sets_same : (p q : KindSet) → same_set p q ≡ true → p ≡ q
sets_same Profile Profile e = refl
sets_same Profile Standard e = cc e
sets_same Standard Profile e = cc e
sets_same Standard Standard e = refl

member_set : (q : KindSet) (k : ParamKind) (ms : List ParamKind) → list_all (λ m. same_set (set_of_kind (Parameter m)) q) ms ≡ true → list_any (λ m. key_of m == key_of k) ms ≡ true → set_of_kind (Parameter k) ≡ q
member_set q k [] all has = cc has
member_set q k (m ∷ ms) all has =
    let p = and_parts (same_set (set_of_kind (Parameter m)) q) (list_all (λ n. same_set (set_of_kind (Parameter n)) q) ms) all in
    (elim (key_of m == key_of k) as (λ b. (key_of m == key_of k) ≡ b → (b || list_any (λ n. key_of n == key_of k) ms) ≡ true → set_of_kind (Parameter k) ≡ q) [
      | true ↦ λ e rest. sym (ap (λ x. set_of_kind (Parameter x)) (param_keys m k (eqb-true (key_of m) (key_of k) e))) ∙ sets_same (set_of_kind (Parameter m)) q p.0
      | false ↦ λ e rest. member_set q k ms p.1 rest
    ]) refl has

groups_set : (q : KindSet) (k : ParamKind) (gs : List GroupRule) → list_all (λ g. list_all (λ m. same_set (set_of_kind (Parameter m)) q) g.members) gs ≡ true → has_place gs k ≡ true → set_of_kind (Parameter k) ≡ q
groups_set q k [] all has = cc has
groups_set q k (g ∷ gs) all has =
    let p = and_parts (list_all (λ m. same_set (set_of_kind (Parameter m)) q) g.members) (list_all (λ h. list_all (λ m. same_set (set_of_kind (Parameter m)) q) h.members) gs) all in
    (elim (is_member g k) as (λ b. is_member g k ≡ b → (b || has_place gs k) ≡ true → set_of_kind (Parameter k) ≡ q) [
      | true ↦ λ e rest. member_set q k g.members p.0 e
      | false ↦ λ e rest. groups_set q k gs p.1 rest
    ]) refl has

-- a child is of its parent's profile
pub child_set : (parent : Kind) (k : ParamKind) → has_place (groups_of parent) k ≡ true → set_of_kind (Parameter k) ≡ set_of_kind parent
unfolding groups_of set_of_kind rule_of message_rule param_rule message_kinds param_kinds whole_message_kinds whole_param_kinds
child_set parent k has = groups_set (set_of_kind parent) k (groups_of parent) (every_rule (λ row. list_all (λ g. list_all (λ m. same_set (set_of_kind (Parameter m)) row.set) g.members) row.groups) (refl, refl) (refl, refl) parent) has

decides_same : (a b : ParamKind) → Decides (sameb the_type a b) (a ≡ b)
decides_same a b = (same_true the_type tt a b, true_same the_type a b)

-- two kinds are the same where their keys are
pub same_by_key : (a b : ParamKind) → sameb the_type a b ≡ (key_of a == key_of b)
same_by_key a b =
    same_from_decides _ _ (decides_same a b)
    (Decides-like _ (param_keys a b) (λ e. ap key_of e) (Decides-eqb (key_of a) (key_of b)))
