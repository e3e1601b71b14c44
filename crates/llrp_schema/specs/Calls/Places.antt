-- In which group of a parent a child is counted, and which groups need a child.
use Rattle.std.specs.Prelude.{◌≡◌, ℕ, ◌<◌, ◌≤◌, true, false, List, length, get_or, Some, None, EachIndex}
use Rattle.std.specs.Int.{bit_at}
use Rattle.llrp_schema.specs.declared.kinds.ParamKind.{ParamKind}
use Rattle.llrp_schema.specs.declared.kinds.Place.{Place}
use Rattle.llrp_schema.specs.Schema.{GroupRule, is_member, has_place}

-- The place is that of the one group that has the kind. It takes one child at most, or any number of them.
pub record IsPlace (groups : List GroupRule) (kind : ParamKind) (place : Place) : Type 0 where
  pub placed : has_place groups kind ≡ true
  pub within : place.index < length groups
  pub member : (d : GroupRule) → is_member (get_or groups place.index d) kind ≡ true
  pub alone : (d : GroupRule) → EachIndex groups (λ k. is_member (get_or groups k d) kind ≡ true → k ≡ place.index)
  pub once : (d : GroupRule) → place.once ≡ true → (get_or groups place.index d).most ≡ Some 1
  pub any : (d : GroupRule) → place.once ≡ false → (get_or groups place.index d).most ≡ None

-- These are the bits of the groups that need a child.
pub record AreRequired (groups : List GroupRule) (required : ℕ) : Type 0 where
  pub least : (d : GroupRule) → EachIndex groups (λ k. bit_at required k ≡ (get_or groups k d).least)
  pub rest : (k : ℕ) → length groups ≤ k → bit_at required k ≡ 0
