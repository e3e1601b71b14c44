-- The check digits of GS1 keys, as lists of the characters' codes: 48 to 57 are 0 to 9.
-- Source: GS1 General Specifications, section 7.9, "Check digit calculations".
use Rattle.std.specs.Prelude.{ℕ, ◌+◌, ◌-◌, ◌*◌, ◌%◌, ◌==◌, Bool, if◌then◌else◌, List, [], ◌∷◌, ◌++◌, length}

-- the weight of a digit that this many digits follow: the last digit, which is the check digit, has 1, the one before it 3, and so on in turn
abbrev pub weight : ℕ → ℕ
weight n = if n % 2 == 0 then 1 else 3

-- the sum of the digits times their weights
unfoldable pub weighed : List ℕ → ℕ
weighed [] = 0
weighed (c ∷ cs) = (c - 48) * weight (length cs) + weighed cs

-- whether the last digit is the check digit of those before it: the sum is a multiple of ten
abbrev pub is_checked : List ℕ → Bool
is_checked digits = weighed digits % 10 == 0

-- the check digit of digits: what the sum lacks to a multiple of ten
abbrev pub check_digit : List ℕ → ℕ
check_digit digits = 48 + (10 - weighed (digits ++ 48 ∷ []) % 10) % 10

-- digits, and their check digit after them
abbrev pub with_check_digit : List ℕ → List ℕ
with_check_digit digits = digits ++ check_digit digits ∷ []
