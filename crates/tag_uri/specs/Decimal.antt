-- Decimal text, as lists of the characters' codes: 48 to 57 are 0 to 9.
use Rattle.std.specs.Prelude.{ℕ, zero, suc, ◌+◌, ◌-◌, ◌*◌, ◌/◌, ◌%◌, ◌^◌, List, [], ◌∷◌, length, decimal}

-- the sum of digit times power of ten
unfoldable pub decimal_value : List ℕ → ℕ
decimal_value [] = 0
decimal_value (c ∷ cs) = (c - 48) * 10 ^ length cs + decimal_value cs

-- the last k digits of n, so below 10 ^ k the list of k digits whose number is n; no digits where k is 0
unfoldable pub padded : ℕ → ℕ → List ℕ
padded zero n = []
padded (suc k) n = (48 + n / 10 ^ k % 10) ∷ padded k n

-- the digits of n without leading zeros; 0 is one digit
abbrev pub plain : ℕ → List ℕ
plain n = decimal n
