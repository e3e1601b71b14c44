-- Text by place in lent room.
use Rattle.std.specs.Prelude.{◌≡◌, ℕ, ◌+◌, List, ◌++◌, length, take}

-- `new` begins with the first `at` octets of `old`, and then the text, up to `end`; the rest is open.
pub record Puts (old new : List ℕ) (at end : ℕ) (text : List ℕ) : Type 0 where
  pub ends : end ≡ at + length text
  pub upto : take end new ≡ take at old ++ text
