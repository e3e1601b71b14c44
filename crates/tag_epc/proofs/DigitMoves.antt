-- Digits pushed after others, and taken from the front.
use Rattle.std.proofs.Common.{◌≡◌, ℕ, ◌+◌, ◌-◌, ◌*◌, ◌/◌, ◌%◌, ◌^◌, ◌<◌, ◌≤◌, Bool, List, [], ◌++◌, length, refl, sym, ap, subst, ◌∙◌, arith, bit_or}
use Rattle.std.proofs.lemmas.Nat.{shr_below, or_shifted, shl_whole, shl_below, mod_below, pow_pos, shr_split, mod_low, shr-shr, shl-shr, field_of, pow-add}
use Rattle.tag_bits.specs.Digits.{digits, word_digits}
use Rattle.tag_bits.proofs.DigitLemmas.{length-digits, digits-join, digits-split}
use Rattle.tag_bits.proofs.WordLemmas.{two_below}

-- a shift and an or add a number after another
pub pushed : (c w n v : ℕ) → c + w ≤ 96 → w < 64 → n < 2 ^ c → v < 2 ^ w → bit_or (n * 2 ^ (w % 64) % 2 ^ 128) v ≡ n * 2 ^ w + v
pushed c w n v room few p q = let same : w % 64 ≡ w = omega arith in rw (same, shl_whole n c w 128 p (omega arith)) (or_shifted n w v q)

-- the number so made has as many digits as both
pub pushed_below : (c w n v : ℕ) → c + w ≤ 96 → w < 64 → n < 2 ^ c → v < 2 ^ w → bit_or (n * 2 ^ (w % 64) % 2 ^ 128) v < 2 ^ (c + w)
pushed_below c w n v room few p q = rw (pushed c w n v room few p q) (two_below n c v w p q)

-- its digits are those of both, in order
pub pushed_digits : (c w n v : ℕ) → c + w ≤ 96 → w < 64 → n < 2 ^ c → v < 2 ^ w → digits (c + w) (bit_or (n * 2 ^ (w % 64) % 2 ^ 128) v) ≡ digits c n ++ digits w v
pushed_digits c w n v room few p q = rw (pushed c w n v room few p q) (digits-join c w n v p q)

-- no digits
pub none : digits 0 0 ≡ []
unfolding digits
none = refl

-- a list of c digits has length c
pub counted : (c n : ℕ) (ds : List Bool) → digits c n ≡ ds → length ds ≡ c
counted c n ds e = ap length (sym e) ∙ length-digits c n

-- 96 digits make a number of a word
pub below_whole : (c n : ℕ) → c ≡ 96 → n < 2 ^ c → n < 2 ^ 96
below_whole c n all h = subst (λ (k : ℕ). n < 2 ^ k) all h

-- the word of 96 digits has them
pub word_whole : (c n w : ℕ) (ds : List Bool) → c ≡ 96 → digits c n ≡ ds → w ≡ n → word_digits w ≡ ds
unfolding word_digits
word_whole c n w ds all e h = ap (λ (k : ℕ). digits 96 k) h ∙ ap (λ (k : ℕ). digits k n) (sym all) ∙ e

-- ---- digits at the front of 128

-- a shift to the left within 128 bits drops the first digits
shifted : (n w k : ℕ) → w + k ≡ 128 → n * 2 ^ w % 2 ^ 128 ≡ n % 2 ^ k * 2 ^ w
shifted n w k e =
    let all : 2 ^ 128 ≡ 2 ^ k * 2 ^ w = ap (λ (i : ℕ). 2 ^ i) (let f : 128 ≡ k + w = omega arith in f) ∙ pow-add 2 k w in
    let low : n % 2 ^ k * 2 ^ w < 2 ^ 128 = subst (λ (i : ℕ). n % 2 ^ k * 2 ^ w < 2 ^ i) (let f : k + w ≡ 128 = omega arith in f) (shl_below (n % 2 ^ k) k w (mod_below n (2 ^ k) (pow_pos k))) in
    let split : n * 2 ^ w ≡ n / 2 ^ k * 2 ^ 128 + n % 2 ^ k * 2 ^ w = rw all (parts n (n / 2 ^ k) (n % 2 ^ k) (2 ^ k) (2 ^ w) (shr_split n k)) in
    ap (λ (i : ℕ). i % 2 ^ 128) split ∙ mod_low (n / 2 ^ k) 128 (n % 2 ^ k * 2 ^ w) low
  where
    parts : (n q r a b : ℕ) → q * a + r ≡ n → n * b ≡ q * (a * b) + r * b
    parts n q r a b e = rw (← e) (omega arith)

-- the first w of c digits, as two shifts to the right give their number
first_number : (n w : ℕ) → w < 64 → n / 2 ^ 65 / 2 ^ (63 - w) ≡ n / 2 ^ (128 - w)
first_number n w few = let e : 65 + (63 - w) ≡ 128 - w = omega arith in shr-shr n 65 (63 - w) ∙ ap (λ (i : ℕ). n / 2 ^ i) e

-- the other digits, as a shift to the left brings them to the front
others : (c w n : ℕ) → w ≤ c → c ≤ 96 → w < 64 → n * 2 ^ (w % 64) % 2 ^ 128 / 2 ^ (128 - (c - w)) ≡ n / 2 ^ (128 - c) % 2 ^ (c - w)
others c w n le small few =
    let same : w % 64 ≡ w = omega arith in
    let place : 128 - (c - w) ≡ w + (128 - c) = omega arith in
    let width : 128 - w ≡ (c - w) + (128 - c) = omega arith in
    rw (same, shifted n w (128 - w) (omega arith), place)
    (sym (shr-shr (n % 2 ^ (128 - w) * 2 ^ w) w (128 - c))
    ∙ ap (λ (i : ℕ). i / 2 ^ (128 - c)) (shl-shr (n % 2 ^ (128 - w)) w)
    ∙ ap (λ (i : ℕ). n % 2 ^ i / 2 ^ (128 - c)) width
    ∙ field_of n (c - w) (128 - c))

-- c digits at the front, of which w are taken
pub front_taken : (c w n : ℕ) → w ≤ c → c ≤ 96 → w < 64 → n < 2 ^ 128
    → digits c (n / 2 ^ (128 - c)) ≡ digits w (n / 2 ^ 65 / 2 ^ (63 - w)) ++ digits (c - w) (n * 2 ^ (w % 64) % 2 ^ 128 / 2 ^ (128 - (c - w)))
front_taken c w n le small few below =
    let r = c - w in
    let m = n / 2 ^ (128 - c) in
    let e : w + r ≡ c = omega arith in
    let whole : c + (128 - c) ≡ 128 = omega arith in
    let fits : m < 2 ^ c = shr_below n c (128 - c) (subst (λ (k : ℕ). n < 2 ^ k) (sym whole) below) in
    let split : digits c m ≡ digits w (m / 2 ^ r) ++ digits r (m % 2 ^ r) = subst (λ (k : ℕ). digits k m ≡ digits w (m / 2 ^ r) ++ digits r (m % 2 ^ r)) e (digits-split w r m (subst (λ (k : ℕ). m < 2 ^ k) (sym e) fits)) in
    let place : (128 - c) + r ≡ 128 - w = omega arith in
    let first : m / 2 ^ r ≡ n / 2 ^ (128 - w) = shr-shr n (128 - c) r ∙ ap (λ (i : ℕ). n / 2 ^ i) place in
    split ∙ ap (λ (i : ℕ). digits w i ++ digits r (m % 2 ^ r)) (first ∙ sym (first_number n w few))
    ∙ ap (λ (i : ℕ). digits w (n / 2 ^ 65 / 2 ^ (63 - w)) ++ digits r i) (sym (others c w n le small few))

pub front_below : (n w : ℕ) → w < 64 → n < 2 ^ 128 → n / 2 ^ 65 / 2 ^ (63 - w) < 2 ^ w
front_below n w few below =
    let whole : w + (128 - w) ≡ 128 = omega arith in
    rw (first_number n w few) (shr_below n w (128 - w) (subst (λ (k : ℕ). n < 2 ^ k) (sym whole) below))

-- a word's digits at the front
pub front_whole : (n w : ℕ) → n ≡ w → n < 2 ^ 96 → digits 96 (n * 2 ^ 32 % 2 ^ 128 / 2 ^ 32) ≡ word_digits w
unfolding word_digits
front_whole n w e below =
    let back : n * 2 ^ 32 % 2 ^ 128 / 2 ^ 32 ≡ n = omega arith in
    ap (λ (k : ℕ). digits 96 k) (back ∙ e)
