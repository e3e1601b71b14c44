-- Beside Building: words of private functions.
use Rattle.std.specs.Prelude.{◌≡◌, ℕ, List, [], ◌∷◌, map, unwrap_or}
use Rattle.llrp_tree.specs.Spelling.{Head, message, tlv, tv}
use Rattle.llrp_tree.specs.OpenTree.{Begun, kind_of_head, rules, plain_values}
use Rattle.llrp_stream.specs.Building.{OpenParts, Building}

-- ---- what it stands for

-- what is kept of a begun node
abbrev pub parts_of : Begun → OpenParts
parts_of b = record { kind = kind_of_head b.head; fields = plain_values (rules b) b.fields; tail = unwrap_or b.tail []; children = b.children }

-- a message's head has the version and the identifier
abbrev pub IsOf : (version id : ℕ) → Head → Type 0
IsOf version id (message v kind octets i) = (v ≡ version) × (i ≡ id)
IsOf version id (tlv kind octets) = Unit {0}
IsOf version id (tv kind) = Unit {0}

-- the outermost node has them
abbrev pub HasHeader : (version id : ℕ) → List Begun → Type 0
HasHeader version id [] = Unit {0}
HasHeader version id (b ∷ []) = IsOf version id b.head
HasHeader version id (b ∷ p ∷ outer) = HasHeader version id (p ∷ outer)

-- The builder keeps the begun nodes.
pub record HasOpen (b : Building) (t : List Begun) : Type 0 where
  pub nodes : b.nodes ≡ map parts_of t
  pub header : HasHeader b.version b.id t
