-- Groups by their places, and what bits say of them.
use Rattle.std.proofs.Common.{◌≡◌, ◌≢◌, ℕ, zero, suc, ◌<◌, ◌≤◌, min, Bool, true, false, List, [], ◌∷◌, length, get_or, Option, Some, None, refl, sym, ap, ◌∙◌, arith, eq-eqb, eqb-true, inl, inr}
use Rattle.std.specs.Prelude.{nat_le, ◌==◌, ◌⊎◌, if◌then◌else◌}
use Rattle.std.specs.Int.{bit_at}
use Rattle.std.specs.List.{list_all}
use Rattle.std.proofs.lemmas.Bool.{cases_lt, le-leb, leb-true}
use Rattle.std.proofs.lemmas.List.Elements.{All-get_or}
use Rattle.std.proofs.lemmas.Nat.Bits.{bit_at_and, same_from_bits}
use lib.Bits.{bit_and}
use Rattle.llrp_schema.specs.declared.kinds.ParamKind.{ParamKind}
use Rattle.llrp_schema.specs.declared.kinds.Kind.{Kind}
use Rattle.llrp_schema.specs.declared.kinds.Place.{Place}
use Rattle.llrp_schema.specs.Schema.{GroupRule, groups_of}
use Rattle.llrp_schema.specs.Calls.Places.{AreRequired, IsPlace}
use Rattle.llrp_schema.specs.Schema.{is_member}
use Rattle.llrp_schema.proofs.PlaceLemmas.{needs_one_at_most}
use Rattle.llrp_tree.specs.Tree.{Forest, trees}
use Rattle.llrp_tree.specs.Lawful.{count}
use Rattle.llrp_tree.specs.Checks.{none_missing, members}
use Rattle.llrp_tree.proofs.LawLemmas.{both, both_true, count-members}
use Rattle.llrp_stream.specs.Calls.Reading.{AreSeen}

-- ---- tests at places

all_at : {X : Type 0} (p : X → Bool) (xs : List X) (k : ℕ) (d : X) → list_all p xs ≡ true → k < length xs → p (get_or xs k d) ≡ true
all_at p [] k d e lt = absurd (omega (arith, lt))
all_at p (x ∷ xs) zero d e lt = (both (p x) (list_all p xs) e).0
all_at p (x ∷ xs) (suc k) d e lt = all_at p xs k d (both (p x) (list_all p xs) e).1 (omega (arith, lt))

pub least_small : (kind : Kind) (k : ℕ) (d : GroupRule) → k < length (groups_of kind) → (get_or (groups_of kind) k d).least ≤ 1
least_small kind k d lt = All-get_or (λ (g : GroupRule). g.least ≤ 1) (groups_of kind) k d lt (needs_one_at_most kind)

-- ---- the place of a kind

-- a group takes one child at most, or any number
abbrev pub most_of : Bool → Option ℕ
most_of once = if once then Some 1 else None

pub most_here : (gs : List GroupRule) (kind : ParamKind) (place : Place) (d : GroupRule) → IsPlace gs kind place → (get_or gs place.index d).most ≡ most_of place.once
most_here gs kind place d p =
    (elim place.once as (λ o. place.once ≡ o → (get_or gs place.index d).most ≡ most_of o) [
      | true ↦ λ e. p.once d e
      | false ↦ λ e. p.any d e
    ]) refl

pub only_here : (gs : List GroupRule) (kind : ParamKind) (place : Place) → IsPlace gs kind place → (k : ℕ) (d : GroupRule) → k < length gs → k ≢ place.index → is_member (get_or gs k d) kind ≡ false
only_here gs kind place p k d lt ne =
    (elim (is_member (get_or gs k d) kind) as (λ b. is_member (get_or gs k d) kind ≡ b → b ≡ false) [
      | true ↦ λ e. absurd (ne (p.alone d k lt e))
      | false ↦ λ e. refl
    ]) refl

-- ---- enough children

missing_none : (gs : List GroupRule) (children : Forest) → ((k : ℕ) (d : GroupRule) → k < length gs → (get_or gs k d).least ≤ count (get_or gs k d) children) → none_missing gs (trees children) ≡ true
unfolding none_missing
missing_none [] children f = refl
missing_none (g ∷ gs) children f =
    both_true (nat_le g.least (members g (trees children))) (list_all (λ h. nat_le h.least (members h (trees children))) gs)
    (le-leb g.least (members g (trees children)) (let a = f 0 g (omega arith) in omega (arith, count-members g children, a)))
    (missing_none gs children (λ k d lt. f (suc k) d (omega (arith, lt))))

enough_at : (gs : List GroupRule) (children : Forest) → none_missing gs (trees children) ≡ true → (k : ℕ) (d : GroupRule) → k < length gs → (get_or gs k d).least ≤ count (get_or gs k d) children
unfolding none_missing
enough_at gs children e k d lt =
    let g : GroupRule = get_or gs k d in
    let a : g.least ≤ members g (trees children) = leb-true g.least (members g (trees children)) (all_at (λ h. nat_le h.least (members h (trees children))) gs k d e lt) in
    omega (arith, count-members g children, a)

pub enough_bits : (gs : List GroupRule) (children : Forest) (seen bits : ℕ) → ((k : ℕ) (d : GroupRule) → k < length gs → (get_or gs k d).least ≤ 1) → AreSeen gs children seen → AreRequired gs bits → (bit_and seen bits == bits) ≡ none_missing gs (trees children)
enough_bits gs children seen bits small s r =
    (elim (none_missing gs (trees children)) as (λ b. none_missing gs (trees children) ≡ b → (bit_and seen bits == bits) ≡ b) [
      | true ↦ λ e. eq-eqb (bit_and seen bits) bits (same_from_bits (bit_and seen bits) bits (λ k. bit_at_and seen bits k ∙ at k (enough_at gs children e)))
      | false ↦ λ e.
          (elim (bit_and seen bits == bits) as (λ b. (bit_and seen bits == bits) ≡ b → b ≡ false) [
            | true ↦ λ f. absurd (let x : true ≡ false = sym (missing_none gs children (λ k d lt. back (eqb-true (bit_and seen bits) bits f) k d lt)) ∙ e in cc)
            | false ↦ λ f. refl
          ]) refl
    ]) refl
  where
    none_group : GroupRule
    none_group = record { members = []; least = 0; most = None }

    at : (k : ℕ) → ((k : ℕ) (d : GroupRule) → k < length gs → (get_or gs k d).least ≤ count (get_or gs k d) children) → min (bit_at seen k) (bit_at bits k) ≡ bit_at bits k
    at k enough = elim (below k (length gs)) [
      | inl lt ↦ (let a = s k none_group lt in let b = r.least none_group k lt in let c = enough k none_group lt in let d = small k none_group lt in omega (arith, a, b, c, d))
      | inr le ↦ (let b = r.rest k le in omega (arith, b))
    ]
      where
        below : (m n : ℕ) → (m < n) ⊎ (n ≤ m)
        below m n = cases_lt m n

    back : bit_and seen bits ≡ bits → (k : ℕ) (d : GroupRule) → k < length gs → (get_or gs k d).least ≤ count (get_or gs k d) children
    back e k d lt =
        let a = s k d lt in let b = r.least d k lt in
        let f : min (bit_at seen k) (bit_at bits k) ≡ bit_at bits k = sym (bit_at_and seen bits k) ∙ ap (λ (n : ℕ). bit_at n k) e in
        omega (arith, a, b, f)
