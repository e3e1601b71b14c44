-- Beside Digits: what contracts say that no promise rests on.
use Rattle.std.specs.Prelude.{◌≡◌, ℕ, ◌+◌, Bool, List, ◌++◌, length, take, drop}
use Rattle.tag_bits.specs.Digits.{value}

-- these are w digits, and their sum of digit times power of two is n
pub record AreDigits (w n : ℕ) (ds : List Bool) : Type 0 where
  pub count : length ds ≡ w
  pub sum : value ds ≡ n

-- `ds` with the digits `new` in place of as many from `place` on
abbrev pub with_field : List Bool → ℕ → List Bool → List Bool
with_field ds place new = take place ds ++ (new ++ drop (place + length new) ds)
