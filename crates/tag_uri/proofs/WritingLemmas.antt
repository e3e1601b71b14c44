-- Digits written in front of a place.
use Rattle.std.proofs.Common.{◌≡◌, ℕ, zero, suc, ◌+◌, ◌-◌, ◌*◌, ◌/◌, ◌%◌, ◌^◌, ◌<◌, ◌≤◌, Bool, true, List, [], ◌∷◌, ◌++◌, length, take, drop, refl, sym, ap, ◌∙◌, arith, append_assoc, length-append, inl, inr}
use Rattle.std.specs.Prelude.{◌==◌, ◌&&◌, codes, slice_index_or, decimal}
use Rattle.std.proofs.Math.Nat.{pow-le-pow_right, mod-lt, div-div-eq-div-mul}
use Rattle.std.proofs.lemmas.Nat.{pow-add}
use Rattle.std.proofs.lemmas.Bool.{cases_lt, eqb-true}
use Rattle.std.proofs.lemmas.List.{length-take-le, length-drop, drop-append-le, take-append-le, take-append-drop, drop_at, take_at}
use Rattle.std.proofs.Math.Seq.{drop-append-add}
use Rattle.tag_uri.specs.Decimal.{padded, plain, decimal_value}
use Rattle.tag_uri.specs.Room.{HasText}
use Rattle.tag_uri.proofs.DecimalLemmas.{length-padded, plain_is, value-below, value-padded, digits-padded, one_padded, mod_small, ten_pos, only_padded, plain_short}
use Rattle.tag_uri.proofs.UriLemmas.{left as both_left, right as both_right}

-- ---- pairs of digits

abbrev pub table : List ℕ
table = codes "00010203040506070809101112131415161718192021222324252627282930313233343536373839404142434445464748495051525354555657585960616263646566676869707172737475767778798081828384858687888990919293949596979899"

abbrev holds : ℕ → Bool
holds n = (slice_index_or table (2 * n) 0 == 48 + n / 10) && (slice_index_or table (2 * n + 1) 0 == 48 + n % 10)

abbrev all_below : ℕ → Bool
all_below zero = true
all_below (suc k) = holds k && all_below k

each : (k n : ℕ) → all_below k ≡ true → n < k → holds n ≡ true
each zero n h below = absurd (omega arith)
each (suc k) n h below = elim (cases_lt n k) [
  | inl less ↦ each k n (both_right (holds k) (all_below k) h) less
  | inr ge ↦ let same : n ≡ k = omega arith in rw same (both_left (holds k) (all_below k) h)
]

pair_holds : (n : ℕ) → n < 100 → holds n ≡ true
pair_holds n below = each 100 n refl below

pub pair_tens : (n : ℕ) → n < 100 → slice_index_or table (2 * n) 0 ≡ 48 + n / 10
pair_tens n below = eqb-true (slice_index_or table (2 * n) 0) (48 + n / 10) (both_left _ (slice_index_or table (2 * n + 1) 0 == 48 + n % 10) (pair_holds n below))

pub pair_ones : (n : ℕ) → n < 100 → slice_index_or table (2 * n + 1) 0 ≡ 48 + n % 10
pair_ones n below = eqb-true (slice_index_or table (2 * n + 1) 0) (48 + n % 10) (both_right (slice_index_or table (2 * n) 0 == 48 + n / 10) _ (pair_holds n below))

pub pair_digits : (n : ℕ) → n < 100 → slice_index_or table (2 * n) 0 ∷ slice_index_or table (2 * n + 1) 0 ∷ [] ≡ padded 2 n
unfolding padded
pair_digits n below =
    let tens : slice_index_or table (2 * n) 0 ≡ 48 + n / 10 ^ 1 % 10 = omega (arith, pair_tens n below) in
    let ones : slice_index_or table (2 * n + 1) 0 ≡ 48 + n / 10 ^ 0 % 10 = omega (arith, pair_ones n below) in
    rw (tens, ones) refl

-- ---- how many digits a number has

pub one_digit : (n : ℕ) → n < 10 → 1 ≡ length (plain n)
one_digit n below =
    let p = plain_is n (omega arith) in
    let most : length (decimal n) ≤ 1 = p.least 1 (omega arith) (omega arith) in
    omega (arith, most, p.some)

pub more_digits : (c n : ℕ) → 1 ≤ c → 10 ^ c ≤ n → n < 10 ^ (c + 1) → n < 2 ^ 64 → c + 1 ≡ length (plain n)
more_digits c n one lo hi small =
    let p = plain_is n small in
    let most : length (decimal n) ≤ c + 1 = p.least (c + 1) (omega arith) hi in
    let number : decimal_value (decimal n) ≡ n = p.padded.number in
    let below : decimal_value (decimal n) < 10 ^ length (decimal n) = value-below (decimal n) p.padded.digits in
    elim (cases_lt (length (decimal n)) (c + 1)) [
      | inl less ↦
          let wide : 10 ^ length (decimal n) ≤ 10 ^ c = pow-le-pow_right {n = 10} (omega arith) {i = length (decimal n)} {j = c} (omega arith) in
          absurd (omega (arith, number, below, wide, lo))
      | inr ge ↦ omega (arith, most, ge)
    ]

-- ---- padded text in parts

pub padded-drop : (i k m n : ℕ) → m ≡ i + k → drop i (padded m n) ≡ padded k n
unfolding padded
padded-drop zero k m n e = let same : m ≡ k = omega arith in rw same refl
padded-drop (suc i) k zero n e = absurd (omega arith)
padded-drop (suc i) k (suc m) n e = padded-drop i k m n (omega arith)

pub padded-append : (j k m n : ℕ) → m ≡ j + k → padded m n ≡ padded j (n / 10 ^ k) ++ padded k n
unfolding padded
padded-append zero k m n e = let same : m ≡ k = omega arith in rw same refl
padded-append (suc j) k zero n e = absurd (omega arith)
padded-append (suc j) k (suc m) n e =
    let same : m ≡ k + j = omega arith in
    let q : n / 10 ^ m ≡ n / 10 ^ k / 10 ^ j = ap (λ (i : ℕ). n / 10 ^ i) same ∙ ap (λ (x : ℕ). n / x) (pow-add 10 k j) ∙ sym (div-div-eq-div-mul n (10 ^ k) (10 ^ j)) in
    rw (q, padded-append j k m n (omega arith)) refl

pub padded-mod : (k n : ℕ) → padded k (n % 10 ^ k) ≡ padded k n
padded-mod k n =
    let m : n % 10 ^ k < 10 ^ k = mod-lt n {m = 10 ^ k} (ten_pos k) in
    one_padded (padded k (n % 10 ^ k)) (padded k n) (digits-padded k (n % 10 ^ k)) (digits-padded k n) (length-padded k (n % 10 ^ k) ∙ sym (length-padded k n))
    (value-padded k (n % 10 ^ k) ∙ mod_small (n % 10 ^ k) (10 ^ k) m ∙ sym (value-padded k n))

-- the last of digits in front of a place
pub last_of : (m count n end : ℕ) (old new : List ℕ) → count ≤ m → m ≤ end → end ≤ length old → new ≡ take (end - m) old ++ (padded m n ++ drop end old)
    → drop (end - count) new ≡ padded count n ++ drop end old
last_of m count n end old new few ahead within e =
    let front : List ℕ = take (end - m) old in
    let flen : length front ≡ end - m = length-take-le (end - m) old (omega arith) in
    let place : end - count ≡ length front + (m - count) = omega (arith, flen) in
    let rest : List ℕ = drop end old in
    let short : m - count ≤ length (padded m n) = omega (arith, length-padded m n) in
    let split : (m - count) + count ≡ m = omega arith in
    let dig : drop (m - count) (padded m n) ≡ padded count n = padded-drop (m - count) count m n (sym split) in
    rw (e, place, drop-append-add front (padded m n ++ rest) (m - count), drop-append-le (m - count) (padded m n) rest short, dig) refl

-- a number's last b digits in front of a place, and the other a in front of those
pub in_parts : (a b n end : ℕ) (old mid new : List ℕ) → a + b ≤ end → end ≤ length old
    → mid ≡ take (end - b) old ++ (padded b (n % 10 ^ b) ++ drop end old)
    → new ≡ take (end - b - a) mid ++ (padded a (n / 10 ^ b) ++ drop (end - b) mid)
    → new ≡ take (end - (a + b)) old ++ (padded (a + b) n ++ drop end old)
in_parts a b n end old mid new ahead within e f =
    let front : List ℕ = take (end - b) old in
    let rest : List ℕ = padded b (n % 10 ^ b) ++ drop end old in
    let flen : length front ≡ end - b = length-take-le (end - b) old (omega arith) in
    let less : end - b - a ≤ length front = omega (arith, flen) in
    let one : take (end - b - a) (front ++ rest) ≡ take (end - b - a) front = take-append-le (end - b - a) front rest less in
    let two : take (end - b - a) (front ++ drop (end - b) old) ≡ take (end - b - a) front = take-append-le (end - b - a) front (drop (end - b) old) less in
    let whole : front ++ drop (end - b) old ≡ old = take-append-drop (end - b) old in
    let three : take (end - b - a) old ≡ take (end - b - a) front = rw whole at two in
    let place : end - b - a ≡ end - (a + b) = omega arith in
    let four : take (end - b - a) mid ≡ take (end - (a + b)) old = ap (λ (x : List ℕ). take (end - b - a) x) e ∙ one ∙ sym three ∙ ap (λ (i : ℕ). take i old) place in
    let back : drop (end - b) mid ≡ rest = ap (λ (x : List ℕ). drop (end - b) x) e ∙ drop_at front rest (end - b) flen in
    let low : padded b (n % 10 ^ b) ≡ padded b n = padded-mod b n in
    let all : padded (a + b) n ≡ padded a (n / 10 ^ b) ++ padded b n = padded-append a b (a + b) n refl in
    f ∙ ap (λ (x : List ℕ). x ++ (padded a (n / 10 ^ b) ++ drop (end - b) mid)) four
    ∙ ap (λ (x : List ℕ). take (end - (a + b)) old ++ (padded a (n / 10 ^ b) ++ x)) (back ∙ ap (λ (x : List ℕ). x ++ drop end old) low)
    ∙ ap (λ (x : List ℕ). take (end - (a + b)) old ++ x) (sym (append_assoc (padded a (n / 10 ^ b)) (padded b n) (drop end old)) ∙ ap (λ (x : List ℕ). x ++ drop end old) (sym all))

pub below_of : (count m n : ℕ) → count ≤ m → n < 10 ^ count → n < 10 ^ m
below_of count m n few below = omega (arith, below, pow-le-pow_right {n = 10} (omega arith) {i = count} {j = m} few)

-- ---- a number's own digits

pub plain_below : (n : ℕ) → n < 2 ^ 64 → n < 10 ^ length (plain n)
plain_below n small =
    let p = plain_is n small in
    let number : decimal_value (decimal n) ≡ n = p.padded.number in
    let below : decimal_value (decimal n) < 10 ^ length (decimal n) = value-below (decimal n) p.padded.digits in
    omega (arith, number, below)

pub plain_few : (n : ℕ) → n < 10 ^ 13 → length (plain n) ≤ 13
plain_few n below = plain_short 13 n below (omega arith) (omega arith)

pub padded_plain : (n : ℕ) → n < 2 ^ 64 → padded (length (plain n)) n ≡ plain n
padded_plain n small = sym (only_padded (length (plain n)) n (plain n) (plain_below n small) (plain_is n small).padded)

-- ---- texts in room

pub drop_drop : (i j m : ℕ) (xs : List ℕ) → m ≡ i + j → drop j (drop i xs) ≡ drop m xs
drop_drop zero j m xs e = let same : m ≡ j = omega arith in rw same refl
drop_drop (suc i) j zero xs e = absurd (omega arith)
drop_drop (suc i) zero (suc m) [] e = refl
drop_drop (suc i) (suc j) (suc m) [] e = refl
drop_drop (suc i) j (suc m) (x ∷ xs) e = drop_drop i j m xs (omega arith)

-- the place where a text ends, by the room's length
pub ends_of : (at end : ℕ) (old new text : List ℕ) → length new ≡ length old → at ≤ end → end ≤ length old → new ≡ take at old ++ (text ++ drop end old) → HasText old new at end text
ends_of at end old new text len order within e =
    let whole : length new ≡ length (take at old) + length (text ++ drop end old) = ap length e ∙ length-append (take at old) (text ++ drop end old) in
    record {
      ends = omega (arith, whole, len, length-take-le at old (omega arith), length-append text (drop end old), length-drop end old);
      octets = e;
    }

-- two texts, one after the other
pub two_texts : (at p q : ℕ) (old mid new s t : List ℕ) → q ≤ length old → HasText old mid at p s → HasText mid new p q t → HasText old new at q (s ++ t)
two_texts at p q old mid new s t within a b =
    let front : List ℕ = take at old ++ s in
    let rest : List ℕ = drop p old in
    let pe : p ≡ at + length s = a.ends in
    let qe : q ≡ p + length t = b.ends in
    let flen : length front ≡ p = omega (arith, pe, qe, within, length-append (take at old) s, length-take-le at old (omega (arith, pe, qe, within))) in
    let e : mid ≡ front ++ rest = a.octets ∙ sym (append_assoc (take at old) s rest) in
    let one : take p mid ≡ front = ap (λ (x : List ℕ). take p x) e ∙ take_at front rest p flen in
    let place : q ≡ length front + length t = omega (arith, flen, qe) in
    let two : drop q mid ≡ drop q old =
    ap (λ (x : List ℕ). drop q x) e ∙ ap (λ (i : ℕ). drop i (front ++ rest)) place ∙ drop-append-add front rest (length t) ∙ drop_drop p (length t) q old qe in
    record {
      ends = omega (arith, pe, qe, length-append s t);
      octets = b.octets ∙ ap (λ (x : List ℕ). x ++ (t ++ drop q mid)) one ∙ ap (λ (x : List ℕ). front ++ (t ++ x)) two
          ∙ append_assoc (take at old) s (t ++ drop q old) ∙ ap (λ (x : List ℕ). take at old ++ x) (sym (append_assoc s t (drop q old)));
    }
