-- The place of a reader in the digits of a frame, and what the functions that read it promise.
use Rattle.llrp_schema.specs.declared.kinds.KindSet.{KindSet}
use Rattle.std.specs.Prelude.{◌≡◌, ℕ, ◌≤◌, Bool, List, [], ◌∷◌, length, take, Option, Some, None}
use Rattle.llrp_schema.specs.declared.kinds.MsgKind.{MsgKind}
use Rattle.llrp_schema.specs.Schema.{message_in}
use Rattle.llrp_tree.specs.Tree.{Forest, none}
use Rattle.llrp_tree.specs.Spelling.{Head}
use Rattle.llrp_tree.specs.OpenTree.{Begun, covers, IsOpenTree}
use Rattle.llrp_tree.specs.FirstFault.{number, first_failing, header_checks_in}

-- the bit at which the message ends
unfoldable pub end_of : List Begun → ℕ
end_of [] = 0
end_of (b ∷ []) = b.stop
end_of (b ∷ p ∷ outer) = end_of (p ∷ outer)

-- An open tree covers the digits up to a place, and its message ends where they do.
pub record IsAt (ds : List Bool) (t : List Begun) (at : ℕ) : Type 0 where
  pub is_open : IsOpenTree t
  pub covered : covers t ≡ take at ds
  pub within : at ≤ length ds
  pub ends : end_of t ≡ length ds

-- a begun node
abbrev pub begin_node : Head → ℕ → List ℕ → Option (List ℕ) → Forest → Begun
begin_node h stop fields tail children = record { head = h; stop = stop; fields = fields; tail = tail; children = children }

-- a node of which some fields are read
abbrev pub leading : Head → ℕ → List ℕ → Begun
leading h stop fields = begin_node h stop fields None none

-- The header passes its checks, and says these numbers.
pub record HeaderSaysIn (p : KindSet) (limit : ℕ) (ds : List Bool) (version : ℕ) (kind : MsgKind) (octets id : ℕ) : Type 0 where
  pub passes : first_failing (header_checks_in p limit ds) ≡ None
  pub version_is : version ≡ number ds 3 3
  pub kind_is : message_in p (number ds 6 10) ≡ Some kind
  pub octets_is : octets ≡ number ds 16 32
  pub id_is : id ≡ number ds 48 32
