-- Beside FrameLaws: what contracts say that no promise rests on.
use Rattle.std.specs.Prelude.{◌≡◌, Bool, List, ◌++◌}
use Rattle.llrp_tree.specs.OpenTree.{Begun, covers, IsOpenTree, root_set}
use Rattle.llrp_tree.specs.Calls.OpenTree.{parts}

-- Two open trees with equally many counted parts that cover the first of the same digits are equal.
abbrev pub OpenTreesAgree : Type 0
OpenTreesAgree = (t u : List Begun) (r s : List Bool) → IsOpenTree t → IsOpenTree u → root_set t ≡ root_set u → parts t ≡ parts u → covers t ++ r ≡ covers u ++ s → t ≡ u
