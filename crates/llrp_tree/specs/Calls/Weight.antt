-- Beside Weight: what contracts say that no promise rests on.
use Rattle.std.specs.Prelude.{ℕ, ◌+◌, length}
use Rattle.llrp_tree.specs.Tree.{MessageTree}
use Rattle.llrp_tree.specs.Weight.{weight}

-- of a message
abbrev pub message_weight : MessageTree → ℕ
message_weight m = 2 + length m.tail + weight m.children
