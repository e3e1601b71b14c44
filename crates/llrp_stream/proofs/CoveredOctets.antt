-- What is covered up to a node's parent is part of what is covered up to the node.
use Rattle.std.proofs.Common.{◌≤◌, List, ◌∷◌, length, arith, length-append}
use Rattle.llrp_tree.specs.OpenTree.{Begun, part, covers}

pub outer_within : (b : Begun) (outer : List Begun) → length (covers outer) ≤ length (covers (b ∷ outer))
unfolding covers
outer_within b outer = let a = length-append (covers outer) (part b) in omega arith
