-- The digits of numbers.
use Rattle.std.proofs.Common.{◌≡◌, ℕ, ◌+◌, ◌-◌, ◌/◌, ◌%◌, ◌^◌, ◌<◌, ◌≤◌, List, [], ◌∷◌, ◌++◌, length, drop, get_or, refl, ap, ◌∙◌, arith, append_assoc}
use Rattle.std.specs.Prelude.{decimal}
use Rattle.std.proofs.lemmas.Fmt.{decimal_digit, decimal_step}
use Rattle.tag_uri.specs.Decimal.{padded}
use Rattle.tag_uri.proofs.DecimalLemmas.{plain_short}
use Rattle.tag_uri.proofs.WritingLemmas.{padded-drop, padded_plain}

pub eight_digits : (n a b c d e f g h : ℕ) → n < 10 ^ 8
    → a ≡ 48 + n / 10000 / 100 / 10 → b ≡ 48 + n / 10000 / 100 % 10 → c ≡ 48 + n / 10000 % 100 / 10 → d ≡ 48 + n / 10000 % 100 % 10
    → e ≡ 48 + n % 10000 / 100 / 10 → f ≡ 48 + n % 10000 / 100 % 10 → g ≡ 48 + n % 10000 % 100 / 10 → h ≡ 48 + n % 10000 % 100 % 10
    → a ∷ b ∷ c ∷ d ∷ e ∷ f ∷ g ∷ h ∷ [] ≡ padded 8 n
unfolding padded
eight_digits n a b c d e f g h below ea eb ec ed ee ef eg eh =
    let qa : a ≡ 48 + n / 10000000 % 10 = omega arith in
    let qb : b ≡ 48 + n / 1000000 % 10 = omega arith in
    let qc : c ≡ 48 + n / 100000 % 10 = omega arith in
    let qd : d ≡ 48 + n / 10000 % 10 = omega arith in
    let qe : e ≡ 48 + n / 1000 % 10 = omega arith in
    let qf : f ≡ 48 + n / 100 % 10 = omega arith in
    let qg : g ≡ 48 + n / 10 % 10 = omega arith in
    let qh : h ≡ 48 + n / 1 % 10 = omega arith in
    rw (qa, qb, qc, qd, qe, qf, qg, qh) refl

-- ---- decimals

abbrev pub pair_of : ℕ → List ℕ
pair_of n = (48 + n / 10) ∷ (48 + n % 10) ∷ []

pub decimal_two : (n : ℕ) → 10 ≤ n → n < 100 → decimal n ≡ pair_of n
decimal_two n lo hi = rw (decimal_step n lo (omega arith), decimal_digit (n / 10) (omega arith))

pub decimal_pair : (n : ℕ) → 100 ≤ n → n < 2 ^ 64 → decimal n ≡ decimal (n / 100) ++ pair_of (n % 100)
decimal_pair n lo hi =
    let a : n / 10 / 10 ≡ n / 100 = omega arith in
    let b : n / 10 % 10 ≡ n % 100 / 10 = omega arith in
    let c : n % 10 ≡ n % 100 % 10 = omega arith in
    rw (decimal_step n (omega arith) hi, decimal_step (n / 10) (omega arith) (omega arith), append_assoc, a, b, ← c)

decimal_four : (n : ℕ) → 10000 ≤ n → n < 2 ^ 64 → decimal n ≡ decimal (n / 10000) ++ (pair_of (n % 10000 / 100) ++ pair_of (n % 10000 % 100))
decimal_four n lo hi =
    let a : n / 100 / 100 ≡ n / 10000 = omega arith in
    let b : n / 100 % 100 ≡ n % 10000 / 100 = omega arith in
    let c : n % 10000 % 100 ≡ n % 100 = omega arith in
    rw (decimal_pair n (omega arith) hi, decimal_pair (n / 100) (omega arith) (omega arith), append_assoc, a, b, c)

-- the last eight digits of a number, and those in front of them
pub decimal_eight : (n : ℕ) → 10 ^ 8 ≤ n → n < 2 ^ 64 → decimal n ≡ decimal (n / 10 ^ 8) ++ padded 8 (n % 10 ^ 8)
decimal_eight n lo hi =
    let q : ℕ = n / 10000 in
    let r : ℕ = n % 10 ^ 8 in
    let upper : n / 10000 / 10000 ≡ n / 10 ^ 8 = omega arith in
    let mid : n / 10000 % 10000 ≡ r / 10000 = omega arith in
    let low : n % 10000 ≡ r % 10000 = omega arith in
    let digits : pair_of (r / 10000 / 100) ++ (pair_of (r / 10000 % 100) ++ (pair_of (r % 10000 / 100) ++ pair_of (r % 10000 % 100))) ≡ padded 8 r = eight_digits r _ _ _ _ _ _ _ _ (omega arith) refl refl refl refl refl refl refl refl in
    decimal_four n (omega arith) hi
    ∙ ap (λ (x : List ℕ). x ++ (pair_of (n % 10000 / 100) ++ pair_of (n % 10000 % 100))) (decimal_four (n / 10000) (omega arith) (omega arith))
    ∙ append_assoc (decimal (n / 10000 / 10000)) (pair_of (n / 10000 % 10000 / 100) ++ pair_of (n / 10000 % 10000 % 100)) (pair_of (n % 10000 / 100) ++ pair_of (n % 10000 % 100))
    ∙ ap (λ (m : ℕ). decimal m ++ ((pair_of (n / 10000 % 10000 / 100) ++ pair_of (n / 10000 % 10000 % 100)) ++ (pair_of (n % 10000 / 100) ++ pair_of (n % 10000 % 100)))) upper
    ∙ ap (λ (m : ℕ). decimal (n / 10 ^ 8) ++ ((pair_of (m / 100) ++ pair_of (m % 100)) ++ (pair_of (n % 10000 / 100) ++ pair_of (n % 10000 % 100)))) mid
    ∙ ap (λ (m : ℕ). decimal (n / 10 ^ 8) ++ ((pair_of (r / 10000 / 100) ++ pair_of (r / 10000 % 100)) ++ (pair_of (m / 100) ++ pair_of (m % 100)))) low
    ∙ ap (λ (x : List ℕ). decimal (n / 10 ^ 8) ++ x) digits

-- the last digits of eight
pub last_digits : (n count : ℕ) → n < 2 ^ 64 → count ≡ length (decimal n) → count ≤ 8 → drop (8 - count) (padded 8 n) ≡ decimal n
last_digits n count small e few =
    padded-drop (8 - count) count 8 n (omega arith) ∙ ap (λ (k : ℕ). padded k n) e ∙ padded_plain n small

-- the two digits of a number below 100
pub as_pair : (n : ℕ) (ds : List ℕ) → n < 100 → ds ≡ padded 2 n → ds ≡ pair_of n
unfolding padded
as_pair n ds below e =
    let tens : n / 10 ^ 1 % 10 ≡ n / 10 = omega arith in
    let ones : n / 10 ^ 0 % 10 ≡ n % 10 = omega arith in
    e ∙ (rw (tens, ones) refl)

pub short_two : (n : ℕ) → n < 100 → length (decimal n) ≤ 2
short_two n below = plain_short 2 n below (omega arith) (omega arith)

pub eight_of : (n : ℕ) (ab cd ef gh : List ℕ) → n < 10 ^ 8 → ab ≡ pair_of (n / 10000 / 100) → cd ≡ pair_of (n / 10000 % 100) → ef ≡ pair_of (n % 10000 / 100) → gh ≡ pair_of (n % 10000 % 100)
    → get_or ab 0 0 ∷ get_or ab 1 0 ∷ get_or cd 0 0 ∷ get_or cd 1 0 ∷ get_or ef 0 0 ∷ get_or ef 1 0 ∷ get_or gh 0 0 ∷ get_or gh 1 0 ∷ [] ≡ padded 8 n
eight_of n ab cd ef gh below e f g h = rw (e, f, g, h) (eight_digits n _ _ _ _ _ _ _ _ below refl refl refl refl refl refl refl refl)

-- the same, put pair by pair
pub eight_pairs : (n : ℕ) (ab cd ef gh : List ℕ) → n < 10 ^ 8 → ab ≡ pair_of (n / 10000 / 100) → cd ≡ pair_of (n / 10000 % 100) → ef ≡ pair_of (n % 10000 / 100) → gh ≡ pair_of (n % 10000 % 100)
    → ((ab ++ cd) ++ ef) ++ gh ≡ padded 8 n
eight_pairs n ab cd ef gh below e f g h = rw (e, f, g, h) (eight_digits n _ _ _ _ _ _ _ _ below refl refl refl refl refl refl refl refl)
