-- How far a front of a frame is read.
use Rattle.std.specs.Prelude.{◌≡◌, ℕ, ◌*◌, ◌<◌, ◌≤◌, List, ◌++◌, length, take, drop}
use Rattle.tag_bits.specs.Digits.{digits_of_bytes}
use Rattle.llrp_schema.specs.declared.kinds.KindSet.{KindSet}
use Rattle.llrp_tree.specs.OpenTree.{root_set, Begun, covers, IsOpenTree}
use Rattle.llrp_tree.specs.Calls.Standing.{end_of}
use Rattle.llrp_tree.specs.Calls.Deciding.{deciding}

-- An open tree of this set of kinds covers the first bits of a front of a frame of this many octets.
pub record Reaches (p : KindSet) (front : List ℕ) (octets : ℕ) (t : List Begun) (at : ℕ) : Type 0 where
  pub is_open : IsOpenTree t
  pub covered : covers t ≡ take at (digits_of_bytes front)
  pub within : at ≤ 8 * length front
  pub ends : end_of t ≡ 8 * octets
  pub fits : length front ≤ octets
  pub root : root_set t ≡ p

-- whatever the rest of the frame is, the front does not decide the next checks of the open tree
abbrev pub IsUndecided : List ℕ → ℕ → List Begun → Type 0
IsUndecided front octets t = (more : List ℕ) → length (front ++ more) ≡ octets → 8 * length front < deciding t (drop (length (covers t)) (digits_of_bytes (front ++ more)))

-- whatever the rest of the frame is, this many bits of it decide the next checks of the open tree
abbrev pub AreDeciding : (bits : ℕ) → (front : List ℕ) → (octets : ℕ) → List Begun → Type 0
AreDeciding bits front octets t = (more : List ℕ) → length (front ++ more) ≡ octets → deciding t (drop (length (covers t)) (digits_of_bytes (front ++ more))) ≤ bits
