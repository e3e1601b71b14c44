-- What a builder keeps of a message of which not all is read, and what that weighs.
use Rattle.std.specs.Prelude.{ℕ, ◌+◌, List, [], ◌∷◌, length, Option}
use Rattle.llrp_schema.specs.declared.kinds.Kind.{Kind}
use Rattle.llrp_tree.specs.Tree.{Forest, MessageTree}
use Rattle.llrp_tree.specs.Weight.{weight}

-- What is kept of an open node: its kind, its plain values, the octets of its tail so far, and its whole children.
pub record OpenParts : Type 0 where
  pub kind : Kind
  pub fields : List ℕ
  pub tail : List ℕ
  pub children : Forest

-- What a builder keeps: the version and the identifier of the message, its open nodes, the innermost first, and the message that is whole.
pub record Building : Type 0 where
  pub version : ℕ
  pub id : ℕ
  pub nodes : List OpenParts
  pub done : Option MessageTree

-- ---- what it weighs

-- two for each open node, the octets of its tail, and the weight of its children
abbrev pub nodes_weight : List OpenParts → ℕ
nodes_weight [] = 0
nodes_weight (n ∷ outer) = nodes_weight outer + (2 + length n.tail + weight n.children)
