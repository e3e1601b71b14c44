-- Text in room that is lent, as lists of octets.
use Rattle.std.specs.Prelude.{◌≡◌, ℕ, ◌+◌, List, ◌++◌, length, take, drop}

-- `new` is `old` with a text from `at` on, which ends at `end`; what comes before it and after it is as it was
pub record HasText (old new : List ℕ) (at end : ℕ) (text : List ℕ) : Type 0 where
  pub ends : end ≡ at + length text
  pub octets : new ≡ take at old ++ (text ++ drop end old)
