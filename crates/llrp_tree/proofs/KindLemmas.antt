-- Kinds are the same where their numbers are, and no two groups of one parent share a kind.
use Rattle.std.proofs.Common.{◌≡◌, ℕ, ◌+◌, ◌<◌, ◌≤◌, ◌==◌, ◌||◌, ◌&&◌, Bool, true, false, not, List, [], ◌∷◌, length, drop, get_or, refl, sym, ap, ◌∙◌}
use Rattle.std.specs.Bool.{Decides}
use Rattle.std.specs.List.{list_any, list_all}
use Rattle.std.proofs.lemmas.Bool.Decides.{Decides-eqb, Decides-like, same_from_decides}
use Rattle.std.proofs.lemmas.List.{drop_more, drop_all}
use denote.Enum.Bare.{sameb, same_true, true_same}
use Rattle.llrp_schema.specs.declared.kinds.ParamKind.{ParamKind}
use Rattle.llrp_schema.specs.contracts.kinds.ParamKind.{the_type}
use Rattle.llrp_schema.specs.declared.kinds.Kind.{Kind}
use Rattle.llrp_schema.specs.Schema.{GroupRule, groups_of, number_of, rule_of, message_rule, param_rule, message_kinds, param_kinds, whole_message_kinds, whole_param_kinds, key_of, set_of_kind}
use Rattle.llrp_schema.proofs.SchemaLemmas.{not_true}
use Rattle.llrp_schema.proofs.TableLaws.{param_keys, every_rule}
use Rattle.llrp_tree.specs.Tree.{Forest}
use Rattle.llrp_tree.specs.Lawful.{is_member, count}
use Rattle.llrp_tree.specs.Lawful.{at_most}
use Rattle.llrp_tree.specs.OpenTree.{takes_more}
use Rattle.llrp_tree.proofs.LawLemmas.{both, both_true}

decides_same : (a b : ParamKind) → Decides (sameb the_type a b) (a ≡ b)
decides_same a b = (same_true the_type tt a b, true_same the_type a b)

-- two kinds are the same where their numbers are
pub same_by_number : (a b : ParamKind) → sameb the_type a b ≡ (key_of a == key_of b)
same_by_number a b =
    same_from_decides _ _ (decides_same a b)
    (Decides-like _ (param_keys a b) (λ e. ap key_of e) (Decides-eqb (key_of a) (key_of b)))

-- a list has a kind where it has the kind's number
pub found_by_number : (kinds : List ParamKind) (kind : ParamKind) → list_any (λ k. sameb the_type k kind) kinds ≡ list_any (λ k. key_of k == key_of kind) kinds
found_by_number [] kind = refl
found_by_number (k ∷ kinds) kind = rw (same_by_number k kind, found_by_number kinds kind) refl

-- from one place of a list on, where it is known whether the kind is there
pub found_here : (kinds : List ParamKind) (i : ℕ) (kind other : ParamKind) (here : Bool) → i < length kinds → here ≡ sameb the_type (get_or kinds i other) kind
    → list_any (λ k. sameb the_type k kind) (drop i kinds) ≡ (here || list_any (λ k. sameb the_type k kind) (drop (i + 1) kinds))
found_here kinds i kind other here room e =
    ap (λ (ks : List ParamKind). list_any (λ k. sameb the_type k kind) ks) (drop_more kinds i other room)
    ∙ ap (λ (b : Bool). b || list_any (λ k. sameb the_type k kind) (drop (i + 1) kinds)) (sym e)

-- after the last place
pub found_nowhere : (kinds : List ParamKind) (i : ℕ) (kind : ParamKind) → length kinds ≤ i → list_any (λ k. sameb the_type k kind) (drop i kinds) ≡ false
found_nowhere kinds i kind past = ap (λ (ks : List ParamKind). list_any (λ k. sameb the_type k kind) ks) (drop_all i kinds past)

-- two groups share no kind
abbrev pub share_none : GroupRule → GroupRule → Bool
share_none g h = list_all (λ kind. not (is_member h kind)) g.members

-- no two of some groups share a kind
abbrev pub are_apart : List GroupRule → Bool
are_apart [] = true
are_apart (g ∷ groups) = list_all (share_none g) groups && are_apart groups

-- no two groups of one parent share a kind
pub parent_apart : (parent : Kind) → are_apart (groups_of parent) ≡ true
unfolding groups_of rule_of message_rule param_rule message_kinds param_kinds whole_message_kinds whole_param_kinds number_of key_of set_of_kind
parent_apart parent = every_rule (λ row. are_apart row.groups) (refl, refl) (refl, refl) parent

-- a group that shares none with one that has the kind has it not
lacks : (kind : ParamKind) (h : GroupRule) (members : List ParamKind) → list_all (λ m. not (is_member h m)) members ≡ true → list_any (λ m. key_of m == key_of kind) members ≡ true → is_member h kind ≡ false
lacks kind h [] none has = absurd cc
lacks kind h (m ∷ members) none has =
    let p = both (not (is_member h m)) (list_all (λ k. not (is_member h k)) members) none in
    (elim (key_of m == key_of kind) as (λ b. (key_of m == key_of kind) ≡ b → (b || list_any (λ k. key_of k == key_of kind) members) ≡ true → is_member h kind ≡ false) [
      | true ↦ λ e rest. ap (λ k. is_member h k) (sym (param_keys m kind ((Decides-eqb (key_of m) (key_of kind)).0 e))) ∙ not_true (is_member h m) p.0
      | false ↦ λ e rest. lacks kind h members p.1 rest
    ]) refl has

-- what shares none with a group that has the kind takes more of it
pub others_take : (kind : ParamKind) (g : GroupRule) (groups : List GroupRule) (children : Forest) → is_member g kind ≡ true → list_all (share_none g) groups ≡ true → takes_more groups kind children ≡ true
unfolding takes_more
others_take kind g [] children has none = refl
others_take kind g (h ∷ groups) children has none =
    let p = both (share_none g h) (list_all (share_none g) groups) none in
    both_true (not (is_member h kind) || at_most h.most (count h children + 1)) (takes_more groups kind children)
    (rw (lacks kind h g.members p.0 has) refl) (others_take kind g groups children has p.1)

first_takes : (kind : ParamKind) (g : GroupRule) (groups : List GroupRule) (children : Forest) → is_member g kind ≡ true → are_apart (g ∷ groups) ≡ true → takes_more (g ∷ groups) kind children ≡ at_most g.most (count g children + 1)
unfolding takes_more
first_takes kind g groups children has apart =
    let p = both (list_all (share_none g) groups) (are_apart groups) apart in
    rw (has, others_take kind g groups children has p.0) (elim (at_most g.most (count g children + 1)) as (λ b. (b && true) ≡ b) [ true ↦ refl | false ↦ refl ])

-- where the first of the groups that are left has the kind, it alone decides whether more of it are taken
pub first_decides : (kind : ParamKind) (g : GroupRule) (others left : List GroupRule) (taken : Bool) (children : Forest) → left ≡ g ∷ others → is_member g kind ≡ true → are_apart left ≡ true → takes_more left kind children ≡ taken → taken ≡ at_most g.most (count g children + 1)
first_decides kind g others left taken children e has apart takes = sym takes ∙ ap (λ gs. takes_more gs kind children) e ∙ first_takes kind g others children has (sym (ap are_apart e) ∙ apart)
