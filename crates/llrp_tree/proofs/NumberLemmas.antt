-- Numbers of octets, one after the other.
use Rattle.std.proofs.Common.{◌≡◌, ℕ, zero, suc, ◌+◌, ◌-◌, ◌*◌, ◌/◌, ◌%◌, ◌^◌, ◌<◌, ◌≤◌, Bool, List, [], ◌∷◌, ◌++◌, length, take, drop, get_or, ap, ◌∙◌, arith, append_assoc, length-append, length-drop}
use Rattle.std.proofs.lemmas.List.{length-take-le, drop-drop}
use Rattle.std.proofs.Math.Seq.{take-add}
use Rattle.tag_bits.specs.Digits.{value, digits, digits_of_bytes}
use Rattle.tag_bits.proofs.DigitLemmas.{value-append}
use Rattle.tag_bits.proofs.ByteLemmas.{bytes-cons, length-bytes}
use Rattle.llrp_tree.specs.Lawful.{AreOctets}
use Rattle.llrp_tree.specs.FirstFault.{number}
use Rattle.llrp_tree.proofs.ReadDigits.{number_own, number_behind, value_at}

-- two runs of digits, one after the other, are one number
pub number_joined : (ds : List Bool) (at a b : ℕ) → at + (a + b) ≤ length ds → number ds at (a + b) ≡ number ds at a * 2 ^ b + number ds (at + a) b
number_joined ds at a b le =
    let back : length (drop at ds) ≡ length ds - at = length-drop at ds in
    let rest : length (drop a (drop at ds)) ≡ length (drop at ds) - a = length-drop a (drop at ds) in
    ap value (take-add a b (drop at ds))
    ∙ value-append (take a (drop at ds)) (take b (drop a (drop at ds)))
    ∙ ap (λ n. value (take a (drop at ds)) * 2 ^ n + value (take b (drop a (drop at ds)))) (length-take-le b (drop a (drop at ds)) (omega arith))
    ∙ ap (λ (x : List Bool). value (take a (drop at ds)) * 2 ^ b + value (take b x)) (drop-drop a at ds ∙ ap (λ (k : ℕ). drop k ds) (omega arith))

-- the digits of an octet are its number
pub octet_at : (octets : List ℕ) (later : List Bool) (i : ℕ) → AreOctets octets → i < length octets → number (digits_of_bytes octets ++ later) (8 * i) 8 ≡ get_or octets i 0
octet_at [] later i are lt = absurd (omega arith)
octet_at (x ∷ xs) later zero are lt =
    ap (λ (ds : List Bool). value (take 8 (ds ++ later))) (bytes-cons x xs)
    ∙ ap (λ (ds : List Bool). value (take 8 ds)) (append_assoc (digits 8 x) (digits_of_bytes xs) later)
    ∙ number_own 8 x (digits_of_bytes xs ++ later) are.0
octet_at (x ∷ xs) later (suc i) are lt =
    ap (λ (n : ℕ). number (digits_of_bytes (x ∷ xs) ++ later) n 8) (let e : 8 * suc i ≡ 8 + 8 * i = omega arith in e)
    ∙ ap (λ (ds : List Bool). number (ds ++ later) (8 + 8 * i) 8) (bytes-cons x xs)
    ∙ ap (λ (ds : List Bool). number ds (8 + 8 * i) 8) (append_assoc (digits 8 x) (digits_of_bytes xs) later)
    ∙ number_behind 8 x (8 * i) 8 (digits_of_bytes xs ++ later)
    ∙ octet_at xs later i are.1 (omega arith)

pub room : (octets : List ℕ) (later : List Bool) → 8 * length octets ≤ length (digits_of_bytes octets ++ later)
room octets later = let a = length-append (digits_of_bytes octets) later in let b = length-bytes octets in omega arith

-- some octets, and others after them, are one number
pub joined : (octets : List ℕ) (later : List Bool) (i a b : ℕ) → i + (a + b) ≤ length octets
    → number (digits_of_bytes octets ++ later) (8 * i) (8 * a + 8 * b) ≡ number (digits_of_bytes octets ++ later) (8 * i) (8 * a) * 2 ^ (8 * b) + number (digits_of_bytes octets ++ later) (8 * (i + a)) (8 * b)
joined octets later i a b le =
    let ds : List Bool = digits_of_bytes octets ++ later in
    let fits = room octets later in
    let next : 8 * i + 8 * a ≡ 8 * (i + a) = omega arith in
    number_joined ds (8 * i) (8 * a) (8 * b) (omega arith) ∙ ap (λ (n : ℕ). number ds (8 * i) (8 * a) * 2 ^ (8 * b) + number ds n (8 * b)) next

-- two octets are one number
pub word_at : (octets : List ℕ) (later : List Bool) (i : ℕ) → AreOctets octets → i + 2 ≤ length octets → number (digits_of_bytes octets ++ later) (8 * i) 16 ≡ get_or octets i 0 * 256 + get_or octets (i + 1) 0
word_at octets later i are le =
    let fits = room octets later in
    let high = octet_at octets later i are (omega arith) in
    let low = octet_at octets later (i + 1) are (omega arith) in
    let next : 8 * (i + 1) ≡ 8 * i + 8 = omega arith in
    let low_at = ap (λ (n : ℕ). number (digits_of_bytes octets ++ later) n 8) next in
    let joined = number_joined (digits_of_bytes octets ++ later) (8 * i) 8 8 (omega arith) in
    omega arith

-- four octets are one number
pub four_at : (octets : List ℕ) (later : List Bool) (i : ℕ) → AreOctets octets → i + 4 ≤ length octets
    → number (digits_of_bytes octets ++ later) (8 * i) 32 ≡ get_or octets i 0 * 16777216 + get_or octets (i + 1) 0 * 65536 + get_or octets (i + 2) 0 * 256 + get_or octets (i + 3) 0
four_at octets later i are le =
    let both = joined octets later i 2 2 le in
    let upper = word_at octets later i are (omega (arith, le)) in
    let lower = word_at octets later (i + 2) are (omega (arith, le)) in
    let last : get_or octets (i + 2 + 1) 0 ≡ get_or octets (i + 3) 0 = ap (λ (k : ℕ). get_or octets k 0) (omega arith) in
    omega (arith, both, upper, lower, last)

-- sixteen digits, in three parts
pub in_three : (ds : List Bool) (front : ℕ) → 16 ≤ length ds → front ≡ number ds 0 16 → (front / 8192 ≡ number ds 0 3) × (front / 1024 % 8 ≡ number ds 3 3) × (front % 1024 ≡ number ds 6 10)
in_three ds front le is =
    let a = number_joined ds 0 3 13 (omega (arith, le)) in
    let b = number_joined ds 3 3 10 (omega (arith, le)) in
    let second = value_at 3 3 ds (omega (arith, le)) in
    let third = value_at 6 10 ds (omega (arith, le)) in
    (omega (arith, is, a, b, second, third), omega (arith, is, a, b, second, third), omega (arith, is, a, b, second, third))
