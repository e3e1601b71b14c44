-- Beside Sending: what contracts say that no promise rests on.
use Rattle.std.specs.Prelude.{◌≡◌, ℕ, List, ◌++◌}
use Rattle.llrp_tree.specs.Tree.{MessageTree}
use Rattle.llrp_endpoints.specs.Sending.{Adds}

-- new is old with the frames of the first of these messages at its end
pub record AddsSome (messages : List MessageTree) (old new : List ℕ) : Type 0 where
  pub first : List MessageTree
  pub later : List MessageTree
  pub parts : messages ≡ first ++ later
  pub adds : Adds first old new
