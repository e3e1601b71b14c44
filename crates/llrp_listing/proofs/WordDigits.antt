-- The hexadecimal digits of a word, and those of its bytes.
use Rattle.std.proofs.Common.{◌≡◌, ℕ, zero, suc, ◌+◌, ◌*◌, ◌/◌, ◌%◌, ◌^◌, ◌<◌, List, [], ◌∷◌, length, refl, sym, ap, ◌∙◌, arith}
use Rattle.std.specs.Prelude.{slice_index}
use Rattle.std.proofs.Math.Nat.{pow-suc, div-div-eq-div-mul}
use Rattle.std.proofs.lemmas.Nat.{pow-add, div-mul-add}
use Rattle.hex.specs.Hex.{encode_with, encode_upper, upper_digits, IsBytes}
use Rattle.tag_bits.specs.Digits.{value, digits, digits_of_bytes, word_digits}
use Rattle.tag_bits.proofs.ByteLemmas.{length-bytes, bytes-cons}
use Rattle.tag_bits.proofs.DigitLemmas.{length-digits, value-digits, value-append, value-below}
use Rattle.tag_uri.specs.Hexadecimal.{hexadecimal}

-- two digits a byte
abbrev twice : ℕ → ℕ
twice zero = zero
twice (suc k) = suc (suc (twice k))

pow_twice : (k : ℕ) → 2 ^ (8 * k) ≡ 16 ^ twice k
pow_twice zero = refl
pow_twice (suc k) =
    let e : 8 * suc k ≡ 8 + 8 * k = omega arith in
    let ih = pow_twice k in
    rw (e, pow-add 2 8 (8 * k), ih, pow-suc 16 (suc (twice k)), pow-suc 16 (twice k)) (omega arith)

-- two digits in front of k others
two_in_front : (k n q : ℕ) → n / 16 ^ k ≡ q → hexadecimal (suc (suc k)) n ≡ slice_index upper_digits (q / 16 % 16) ∷ slice_index upper_digits (q % 16) ∷ hexadecimal k n
unfolding hexadecimal
two_in_front k n q e =
    let p : 16 ^ suc k ≡ 16 ^ k * 16 = rw (pow-suc 16 k) (omega arith) in
    let first : n / 16 ^ suc k ≡ q / 16 = ap (λ (x : ℕ). n / x) p ∙ sym (div-div-eq-div-mul n (16 ^ k) 16) ∙ ap (λ (x : ℕ). x / 16) e in
    rw (first, e) refl

-- the number that bytes spell, with anything in front of it, has their digits
spelled : (bs : List ℕ) (a : ℕ) → IsBytes bs → hexadecimal (twice (length bs)) (a * 16 ^ twice (length bs) + value (digits_of_bytes bs)) ≡ encode_upper bs
unfolding hexadecimal encode_with
spelled [] a h = refl
spelled (b ∷ bs) a h =
    let byte : b < 256 = h 0 in
    let k : ℕ = twice (length bs) in
    let r : ℕ = value (digits_of_bytes bs) in
    let wide : 2 ^ length (digits_of_bytes bs) ≡ 16 ^ k = ap (λ (i : ℕ). 2 ^ i) (length-bytes bs) ∙ pow_twice (length bs) in
    let below : r < 16 ^ k = rw (← wide) (value-below (digits_of_bytes bs)) in
    let v : value (digits_of_bytes (b ∷ bs)) ≡ b * 16 ^ k + r =
    ap value (bytes-cons b bs) ∙ value-append (digits 8 b) (digits_of_bytes bs) ∙ rw (value-digits 8 b byte, wide) refl in
    let p : 16 ^ suc (suc k) ≡ 256 * 16 ^ k = rw (pow-suc 16 (suc k), pow-suc 16 k) (omega arith) in
    let n : a * 16 ^ suc (suc k) + value (digits_of_bytes (b ∷ bs)) ≡ (a * 256 + b) * 16 ^ k + r = rw (p, v) (omega arith) in
    let q : ((a * 256 + b) * 16 ^ k + r) / 16 ^ k ≡ a * 256 + b = div-mul-add (a * 256 + b) (16 ^ k) r below in
    let first : (a * 256 + b) / 16 % 16 ≡ b / 16 = omega arith in
    let second : (a * 256 + b) % 16 ≡ b % 16 = omega arith in
    ap (λ (x : ℕ). hexadecimal (suc (suc k)) x) n ∙ two_in_front k ((a * 256 + b) * 16 ^ k + r) (a * 256 + b) q ∙ rw (first, second, spelled bs (a * 256 + b) (λ i. h (suc i))) refl

-- the bytes of a word are twelve
pub twelve : (bs : List ℕ) (w : ℕ) → word_digits w ≡ digits_of_bytes bs → length bs ≡ 12
unfolding word_digits
twelve bs w e = omega (arith, ap length e, length-digits 96 w, length-bytes bs)

-- the digits of a word are those of its bytes
pub word_text : (bs : List ℕ) (w : ℕ) → w < 2 ^ 96 → length bs ≡ 12 → IsBytes bs → digits_of_bytes bs ≡ word_digits w → hexadecimal 24 w ≡ encode_upper bs
unfolding word_digits
word_text bs w h len bytes e =
    let n : 0 * 16 ^ twice (length bs) + value (digits_of_bytes bs) ≡ w = omega (arith, ap value e, value-digits 96 w h) in
    let t : twice (length bs) ≡ 24 = ap twice len in
    ap (λ (k : ℕ). hexadecimal k w) (sym t) ∙ ap (λ (x : ℕ). hexadecimal (twice (length bs)) x) (sym n) ∙ spelled bs 0 bytes

-- the last k bytes of a number
bytes_of : ℕ → ℕ → List ℕ
bytes_of zero n = []
bytes_of (suc k) n = n / 16 ^ twice k % 256 ∷ bytes_of k n

are_bytes : (k n : ℕ) → IsBytes (bytes_of k n)
unfolding bytes_of
are_bytes zero n i = omega arith
are_bytes (suc k) n zero = omega arith
are_bytes (suc k) n (suc i) = are_bytes k n i

have_digits : (k n : ℕ) → hexadecimal (twice k) n ≡ encode_upper (bytes_of k n)
unfolding hexadecimal encode_with bytes_of
have_digits zero n = refl
have_digits (suc k) n =
    let q : ℕ = n / 16 ^ twice k in
    let first : q % 256 / 16 ≡ q / 16 % 16 = omega arith in
    let second : q % 256 % 16 ≡ q % 16 = omega arith in
    two_in_front (twice k) n q refl ∙ rw (first, second, have_digits k n) refl

-- the digits of a word are those of some bytes
pub bytes_spelled : (w : ℕ) → (bytes : List ℕ) × IsBytes bytes × (hexadecimal 24 w ≡ encode_upper bytes)
bytes_spelled w = (bytes_of 12 w, are_bytes 12 w, have_digits 12 w)
