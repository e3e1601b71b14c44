-- Beside Decimal: what contracts say that no promise rests on.
use Rattle.std.specs.Prelude.{◌≡◌, ℕ, ◌^◌, ◌<◌, ◌≤◌, List, [], ◌∷◌, length}
use Rattle.std.specs.Int.{IsInRange}
use Rattle.tag_uri.specs.Decimal.{decimal_value}

-- characters 0 to 9
abbrev pub AreDigits : List ℕ → Type 0
AreDigits [] = Unit {0}
AreDigits (c ∷ cs) = IsInRange 48 57 c × AreDigits cs

-- these are k digits, and their number is n
pub record IsPadded (k n : ℕ) (cs : List ℕ) : Type 0 where
  pub count : length cs ≡ k
  pub digits : AreDigits cs
  pub number : decimal_value cs ≡ n

-- these are k digits of n for the least k of at least one that n has
pub record IsPlain (n : ℕ) (cs : List ℕ) : Type 0 where
  pub padded : IsPadded (length cs) n cs
  pub some : 1 ≤ length cs
  pub least : (k : ℕ) → 1 ≤ k → n < 10 ^ k → length cs ≤ k
