-- The one group that has a kind decides whether a node takes more of it.
use Rattle.std.proofs.Common.{◌≡◌, ◌≢◌, ℕ, zero, suc, ◌+◌, ◌<◌, ◌&&◌, Bool, true, false, List, [], ◌∷◌, length, get_or, refl, arith}
use Rattle.llrp_schema.specs.declared.kinds.ParamKind.{ParamKind}
use Rattle.llrp_schema.specs.declared.kinds.Place.{Place}
use Rattle.llrp_schema.specs.Schema.{GroupRule}
use Rattle.llrp_schema.specs.Calls.Places.{IsPlace}
use Rattle.llrp_tree.specs.Tree.{Forest}
use Rattle.llrp_tree.specs.Lawful.{count, is_member}
use Rattle.llrp_tree.specs.Lawful.{at_most}
use Rattle.llrp_tree.specs.OpenTree.{takes_more}

-- another group has not the kind
pub elsewhere : (gs : List GroupRule) (kind : ParamKind) (place : Place) → IsPlace gs kind place → (k : ℕ) (d : GroupRule) → k < length gs → k ≢ place.index → is_member (get_or gs k d) kind ≡ false
elsewhere gs kind place p k d lt ne =
    (elim (is_member (get_or gs k d) kind) as (λ b. is_member (get_or gs k d) kind ≡ b → b ≡ false) [
      | true ↦ λ e. absurd (ne (p.alone d k lt e))
      | false ↦ λ e. refl
    ]) refl

pub and_true : (b : Bool) → (b && true) ≡ b
and_true true = refl
and_true false = refl

all_take : (kind : ParamKind) (cs : Forest) (gs : List GroupRule) → ((k : ℕ) (d : GroupRule) → k < length gs → is_member (get_or gs k d) kind ≡ false) → takes_more gs kind cs ≡ true
unfolding takes_more
all_take kind cs [] f = refl
all_take kind cs (g ∷ gs) f = rw (f 0 g (omega arith)) (all_take kind cs gs (λ k d lt. f (suc k) d (omega (arith, lt))))

takes_at : (kind : ParamKind) (cs : Forest) (gs : List GroupRule) (i : ℕ) (d : GroupRule) → i < length gs → is_member (get_or gs i d) kind ≡ true → ((k : ℕ) (e : GroupRule) → k < length gs → k ≢ i → is_member (get_or gs k e) kind ≡ false)
    → takes_more gs kind cs ≡ at_most (get_or gs i d).most (count (get_or gs i d) cs + 1)
unfolding takes_more
takes_at kind cs [] i d lt m f = absurd (omega (arith, lt))
takes_at kind cs (g ∷ gs) zero d lt m f =
    let others : takes_more gs kind cs ≡ true = all_take kind cs gs (λ k e le. f (suc k) e (omega (arith, le)) (λ z. absurd (omega (arith, z)))) in
    rw (m, others) (and_true (at_most g.most (count g cs + 1)))
takes_at kind cs (g ∷ gs) (suc i) d lt m f =
    let lacks : is_member g kind ≡ false = f 0 g (omega arith) (λ z. absurd (omega (arith, z))) in
    rw lacks (takes_at kind cs gs i d (omega (arith, lt)) m (λ k e le ne. f (suc k) e (omega (arith, le)) (λ z. ne (omega (arith, z)))))

pub takes_in_place : (gs : List GroupRule) (kind : ParamKind) (place : Place) → IsPlace gs kind place → (cs : Forest) (d : GroupRule) → takes_more gs kind cs ≡ at_most (get_or gs place.index d).most (count (get_or gs place.index d) cs + 1)
takes_in_place gs kind place p cs d = takes_at kind cs gs place.index d p.within (p.member d) (elsewhere gs kind place p)
