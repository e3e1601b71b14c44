-- Hexadecimal text.
use Rattle.std.proofs.Common.{◌≡◌, ℕ, zero, suc, ◌+◌, ◌-◌, ◌*◌, ◌/◌, ◌%◌, ◌^◌, ◌<◌, Bool, true, List, [], ◌∷◌, ◌++◌, length, get_or, take, drop, refl, sym, ap, ◌∙◌, arith, inl, inr, append_assoc}
use Rattle.std.proofs.Math.Nat.{pow-suc, one-le-pow, mul-add-div_right, div-div-eq-div-mul, div-lt_iff_lt-mul, pow-le-pow_right}
use Rattle.std.proofs.lemmas.Nat.{pow-add, div-mul-add, div-add-mod', mod_below}
use Rattle.std.proofs.lemmas.List.{take_more, take-append-drop, length-take-le, length-drop}
use Rattle.std.specs.Prelude.{◌==◌, ◌&&◌, nat_lt, cond, slice_index, codes}
use Rattle.std.proofs.lemmas.Bool.{cases_lt, eqb-true}
use Rattle.tag_uri.specs.Hexadecimal.{hexadecimal, is_upper_digit}
use Rattle.tag_uri.specs.TagText.{AreWordDigits}
use Rattle.tag_epc.proofs.Soundness.{both}

abbrev pub upper_digits : List ℕ
upper_digits = codes "0123456789ABCDEF"

pub length-hexadecimal : (k n : ℕ) → length (hexadecimal k n) ≡ k
unfolding hexadecimal
length-hexadecimal zero n = refl
length-hexadecimal (suc k) n = ap suc (length-hexadecimal k n)

-- a test of each number below n
abbrev below : (ℕ → Bool) → ℕ → Bool
below p zero = true
below p (suc n) = p n && below p n

below-at : (p : ℕ → Bool) (n k : ℕ) → below p n ≡ true → k < n → p k ≡ true
below-at p zero k h lt = absurd (omega arith)
below-at p (suc n) k h lt =
    elim (cases_lt k n) [
      | inl less ↦ below-at p n k (both _ _ h).1 less
      | inr ge ↦ let same : k ≡ n = omega arith in rw same (both _ _ h).0
    ]

-- the glyph of a digit
pub glyph : (d : ℕ) → d < 16 → slice_index upper_digits d ≡ cond (nat_lt d 10) (48 + d) (55 + d)
glyph d h = eqb-true _ _ (below-at (λ e. slice_index upper_digits e == cond (nat_lt e 10) (48 + e) (55 + e)) 16 d refl h)

upper_digit : (d : ℕ) → d < 16 → is_upper_digit (slice_index upper_digits d) ≡ true
upper_digit d h = below-at (λ e. is_upper_digit (slice_index upper_digits e)) 16 d refl h

-- what is above k digits does not show in them
above : (k a r : ℕ) → hexadecimal k (a * 16 ^ k + r) ≡ hexadecimal k r
unfolding hexadecimal
above zero a r = refl
above (suc k) a r =
    let m : ℕ = 16 ^ k in
    let e : a * 16 ^ suc k + r ≡ a * 16 * m + r = rw (pow-suc 16 k) (omega arith) in
    let q : (a * 16 * m + r) / m ≡ a * 16 + r / m = mul-add-div_right {m = m} (one-le-pow k 16 (omega arith)) (a * 16) r in
    let d : (a * 16 + r / m) % 16 ≡ r / m % 16 = omega arith in
    rw (e, q, d, above k (a * 16) r) refl

-- the number of a digit
unfoldable digit : ℕ → ℕ
digit c = cond (nat_lt c 58) (c - 48) (c - 55)

-- ---- one number

glyph_back : (d : ℕ) → d < 16 → digit (slice_index upper_digits d) ≡ d
unfolding digit
glyph_back d h = eqb-true _ _ (below-at (λ e. cond (nat_lt (slice_index upper_digits e) 58) (slice_index upper_digits e - 48) (slice_index upper_digits e - 55) == e) 16 d refl h)

low_digits : (k n : ℕ) → hexadecimal k n ≡ hexadecimal k (n % 16 ^ k)
low_digits k n = ap (hexadecimal k) (sym (div-add-mod' n (16 ^ k))) ∙ above k (n / 16 ^ k) (n % 16 ^ k)

same_number : (k m n : ℕ) → m < 16 ^ k → n < 16 ^ k → hexadecimal k m ≡ hexadecimal k n → m ≡ n
unfolding hexadecimal
same_number zero m n p q e = omega arith
same_number (suc k) m n p q e =
    let s : 16 ^ suc k ≡ 16 * 16 ^ k = rw (pow-suc 16 k) (omega arith) in
    let pm : m / 16 ^ k < 16 = (div-lt_iff_lt-mul {k = 16 ^ k} {x = m} {y = 16} (one-le-pow k 16 (omega arith))).1 (rw s at p) in
    let pn : n / 16 ^ k < 16 = (div-lt_iff_lt-mul {k = 16 ^ k} {x = n} {y = 16} (one-le-pow k 16 (omega arith))).1 (rw s at q) in
    let head : slice_index upper_digits (m / 16 ^ k % 16) ≡ slice_index upper_digits (n / 16 ^ k % 16) = cc in
    let tail : hexadecimal k m ≡ hexadecimal k n = cc in
    let first : m / 16 ^ k % 16 ≡ n / 16 ^ k % 16 = sym (glyph_back (m / 16 ^ k % 16) (omega arith)) ∙ ap digit head ∙ glyph_back (n / 16 ^ k % 16) (omega arith) in
    let high : m / 16 ^ k ≡ n / 16 ^ k = omega (arith, first, pm, pn) in
    let low : m % 16 ^ k ≡ n % 16 ^ k = same_number k (m % 16 ^ k) (n % 16 ^ k) (mod_below m (16 ^ k) (one-le-pow k 16 (omega arith))) (mod_below n (16 ^ k) (one-le-pow k 16 (omega arith))) (sym (low_digits k m) ∙ tail ∙ low_digits k n) in
    sym (div-add-mod' m (16 ^ k)) ∙ rw (high, low) (div-add-mod' n (16 ^ k))

-- two words have different digits
pub one_number : (v w : ℕ) → v < 2 ^ 96 → w < 2 ^ 96 → hexadecimal 24 v ≡ hexadecimal 24 w → v ≡ w
one_number v w p q e = same_number 24 v w p q e

all_digits : (k n i d : ℕ) → i < length (hexadecimal k n) → is_upper_digit (get_or (hexadecimal k n) i d) ≡ true
unfolding hexadecimal
all_digits zero n i d h = absurd (omega arith)
all_digits (suc k) n zero d h = upper_digit (n / 16 ^ k % 16) (omega arith)
all_digits (suc k) n (suc i) d h = all_digits k n i d (omega arith)

pub word_digits_of : (w : ℕ) → AreWordDigits (hexadecimal 24 w)
word_digits_of w = record { count = length-hexadecimal 24 w; digits = λ i d h. all_digits 24 w i d h }

-- ---- more digits

-- one more digit after others
one_more : (k n d : ℕ) → d < 16 → hexadecimal (suc k) (n * 16 + d) ≡ hexadecimal k n ++ slice_index upper_digits d ∷ []
unfolding hexadecimal
one_more zero n d h = let e : (n * 16 + d) / 1 % 16 ≡ d = omega arith in rw e refl
one_more (suc k) n d h =
    let p : 16 ^ suc k ≡ 16 * 16 ^ k = rw (pow-suc 16 k) (omega arith) in
    let q : (n * 16 + d) / 16 ^ suc k ≡ n / 16 ^ k = ap (λ (x : ℕ). (n * 16 + d) / x) p ∙ sym (div-div-eq-div-mul (n * 16 + d) 16 (16 ^ k)) ∙ ap (λ (x : ℕ). x / 16 ^ k) (div-mul-add n 16 d h) in
    rw (q, one_more k n d h) refl

-- the digits of a number in two parts
pub hexadecimal-append : (j k m n : ℕ) → m ≡ j + k → hexadecimal m n ≡ hexadecimal j (n / 16 ^ k) ++ hexadecimal k n
unfolding hexadecimal
hexadecimal-append zero k m n e = let same : m ≡ k = omega arith in rw same refl
hexadecimal-append (suc j) k zero n e = absurd (omega arith)
hexadecimal-append (suc j) k (suc m) n e =
    let same : m ≡ k + j = omega arith in
    let q : n / 16 ^ m ≡ n / 16 ^ k / 16 ^ j = ap (λ (i : ℕ). n / 16 ^ i) same ∙ ap (λ (x : ℕ). n / x) (pow-add 16 k j) ∙ sym (div-div-eq-div-mul n (16 ^ k) (16 ^ j)) in
    rw (q, hexadecimal-append j k m n (omega arith)) refl

-- the digits of a word in three parts
pub three_eights : (w : ℕ) → hexadecimal 24 w ≡ hexadecimal 8 (w / 4294967296 / 4294967296) ++ (hexadecimal 8 (w / 4294967296 % 4294967296) ++ hexadecimal 8 (w % 4294967296))
three_eights w =
    hexadecimal-append 8 16 24 w refl
    ∙ ap (λ (x : List ℕ). hexadecimal 8 (w / 16 ^ 16) ++ x) (hexadecimal-append 8 8 16 w refl ∙ ap (λ (x : List ℕ). x ++ hexadecimal 8 w) (low_digits 8 (w / 16 ^ 8)) ∙ ap (λ (x : List ℕ). hexadecimal 8 (w / 16 ^ 8 % 16 ^ 8) ++ x) (low_digits 8 w))
    ∙ ap (λ (i : ℕ). hexadecimal 8 i ++ (hexadecimal 8 (w / 4294967296 % 4294967296) ++ hexadecimal 8 (w % 4294967296))) (sym (div-div-eq-div-mul w 4294967296 4294967296))

pub joined_eights : (w n : ℕ) (a b c : List ℕ) → n ≡ w → a ≡ hexadecimal 8 (n / 4294967296 / 4294967296) → b ≡ hexadecimal 8 (n / 4294967296 % 4294967296) → c ≡ hexadecimal 8 (n % 4294967296) → (a ++ b) ++ c ≡ hexadecimal 24 w
joined_eights w n a b c e p q r = append_assoc a b c ∙ rw (p, q, r) (sym (three_eights n)) ∙ ap (λ (i : ℕ). hexadecimal 24 i) e

-- eight digits, each as it is looked up
pub eight_of : (n a b c d e f g h : ℕ) → a ≡ slice_index upper_digits (n / 268435456 % 16) → b ≡ slice_index upper_digits (n / 16777216 % 16) → c ≡ slice_index upper_digits (n / 1048576 % 16)
    → d ≡ slice_index upper_digits (n / 65536 % 16) → e ≡ slice_index upper_digits (n / 4096 % 16) → f ≡ slice_index upper_digits (n / 256 % 16) → g ≡ slice_index upper_digits (n / 16 % 16) → h ≡ slice_index upper_digits (n % 16)
    → a ∷ b ∷ c ∷ d ∷ e ∷ f ∷ g ∷ h ∷ [] ≡ hexadecimal 8 n
unfolding hexadecimal
eight_of n a b c d e f g h pa pb pc pd pe pf pg ph =
    let one : n / 1 ≡ n = omega arith in
    let last : h ≡ slice_index upper_digits (n / 1 % 16) = rw one ph in
    rw (pa, pb, pc, pd, pe, pf, pg, last) refl

-- a step of reading digits
pub read_more : (xs : List ℕ) (i n d : ℕ) → i < length xs → d < 16 → get_or xs i 0 ≡ slice_index upper_digits d → take i xs ≡ hexadecimal i n → take (i + 1) xs ≡ hexadecimal (i + 1) (n * 16 + d)
read_more xs i n d lt small is e =
    let m : suc i ≡ i + 1 = omega arith in
    take_more xs i 0 lt ∙ ap (λ (x : List ℕ). x ++ get_or xs i 0 ∷ []) e ∙ ap (λ (x : ℕ). hexadecimal i n ++ x ∷ []) is ∙ sym (one_more i n d small) ∙ ap (λ (k : ℕ). hexadecimal k (n * 16 + d)) m

pub more_fits : (i n d : ℕ) → n < 16 ^ i → d < 16 → n * 16 + d < 16 ^ (i + 1)
more_fits i n d h small =
    let m : i + 1 ≡ suc i = omega arith in
    let p : 16 ^ (i + 1) ≡ 16 * 16 ^ i = ap (λ (k : ℕ). 16 ^ k) m ∙ rw (pow-suc 16 i) (omega arith) in
    omega (arith, p, h, small)

-- a number of at most 14 digits has room for one more in 64 bits
pub few_fit : (i n : ℕ) → i < 15 → n < 16 ^ i → n < 2 ^ 60
few_fit i n few h = omega (arith, h, pow-le-pow_right {n = 16} (omega arith) {i = i} {j = 15} (omega arith))

-- the two halves of a word's digits
pub two_halves : (text : List ℕ) (u v w : ℕ) → u < 16 ^ 12 → v < 16 ^ 12 → w ≡ u * 281474976710656 + v → take 12 text ≡ hexadecimal 12 u → drop 12 text ≡ hexadecimal 12 v → text ≡ hexadecimal 24 w
two_halves text u v w hu hv is first second =
    let upper : w / 16 ^ 12 ≡ u = ap (λ (i : ℕ). i / 16 ^ 12) is ∙ div-mul-add u 281474976710656 v hv in
    let lower : w % 16 ^ 12 ≡ v = omega (arith, is, hv) in
    sym (take-append-drop 12 text) ∙ ap (λ (x : List ℕ). x ++ drop 12 text) first ∙ ap (λ (x : List ℕ). hexadecimal 12 u ++ x) second
    ∙ sym (hexadecimal-append 12 12 24 w refl ∙ ap (λ (i : ℕ). hexadecimal 12 i ++ hexadecimal 12 w) upper ∙ ap (λ (x : List ℕ). hexadecimal 12 u ++ x) (low_digits 12 w ∙ ap (λ (i : ℕ). hexadecimal 12 i) lower))

-- before any digit is read
pub none_read : (xs : List ℕ) → take 0 xs ≡ hexadecimal 0 0
unfolding hexadecimal
none_read [] = refl
none_read (x ∷ xs) = refl

-- the same from what was read of each half
pub read_halves : (octets text first second : List ℕ) (u v w : ℕ) → octets ≡ text → length octets ≡ 24 → first ≡ take 12 octets → second ≡ drop 12 octets
    → u < 16 ^ length first → v < 16 ^ length second → first ≡ hexadecimal (length first) u → second ≡ hexadecimal (length second) v → w ≡ u * 281474976710656 + v → text ≡ hexadecimal 24 w
read_halves octets text first second u v w e l f g hu hv du dv is =
    let m : length first ≡ 12 = ap length f ∙ length-take-le 12 octets (omega (arith, l)) in
    let n : length second ≡ 12 = omega (arith, ap length g, length-drop 12 octets, l) in
    let below : u < 16 ^ 12 = rw m at hu in
    let under : v < 16 ^ 12 = rw n at hv in
    sym e ∙ two_halves octets u v w below under is (sym f ∙ du ∙ ap (λ (k : ℕ). hexadecimal k u) m) (sym g ∙ dv ∙ ap (λ (k : ℕ). hexadecimal k v) n)
