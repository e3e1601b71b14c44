-- What messages, parameters and open trees weigh: two for each node, and the octets of each tail.
use Rattle.std.specs.Prelude.{ℕ, ◌+◌, length}
use Rattle.llrp_tree.specs.Tree.{Forest, none, and}

-- of parameters in a row, with all below them
abbrev pub weight : Forest → ℕ
weight none = 0
weight (and before kind fields tail children) = weight before + (2 + length tail + weight children)
