-- Beside Weight: words of private functions.
use Rattle.std.specs.Prelude.{ℕ, ◌+◌, List, [], ◌∷◌, length, unwrap_or}
use Rattle.llrp_tree.specs.OpenTree.{Begun}
use Rattle.llrp_tree.specs.Weight.{weight}

-- of an open tree, whose begun nodes weigh as whole ones do
abbrev pub open_weight : List Begun → ℕ
open_weight [] = 0
open_weight (b ∷ outer) = open_weight outer + (2 + length (unwrap_or b.tail []) + weight b.children)
