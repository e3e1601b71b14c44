-- Octets read into one number, and written from one.
use Rattle.std.proofs.Common.{◌≡◌, ℕ, ◌+◌, ◌-◌, ◌*◌, ◌/◌, ◌%◌, ◌^◌, ◌<◌, ◌≤◌, Bool, List, [], ◌∷◌, ◌++◌, length, take, drop, refl, sym, ap, subst, ◌∙◌, arith, append-nil, bit_and, bit_or, get_or, set}
use Rattle.std.proofs.Math.Nat.{pow-le-pow_right}
use Rattle.std.proofs.lemmas.List.{length-take, take_more, take-append-drop, drop-drop, drop-set, drop_all}
use Rattle.std.proofs.lemmas.Nat.{shr-shr, and_mask, or_shifted, shl_whole}
use Rattle.tag_bits.specs.Digits.{value, digits, digits_of_bytes, field}
use Rattle.tag_bits.proofs.ByteLemmas.{length-bytes, bytes-nil, bytes-cons, bytes-append}
use Rattle.tag_bits.proofs.DigitLemmas.{length-digits, value-digits, value-below, value-append}
use Rattle.tag_bits.proofs.WordLemmas.{field-digits}

pub none_read : 0 ≡ value (digits_of_bytes [])
unfolding value
none_read = sym (ap value bytes-nil)

bytes_more : (bs : List ℕ) (b : ℕ) → digits_of_bytes (bs ++ b ∷ []) ≡ digits_of_bytes bs ++ digits 8 b
bytes_more bs b = bytes-append bs (b ∷ []) ∙ ap (λ (x : List Bool). digits_of_bytes bs ++ x) (bytes-cons b [] ∙ ap (λ (x : List Bool). digits 8 b ++ x) bytes-nil ∙ append-nil (digits 8 b))

-- one more octet is read, at a type of `size` bits
pub read_more : (size : ℕ) (bs : List ℕ) (i n : ℕ) → i < length bs → 8 * length bs ≤ size → get_or bs i 0 < 2 ^ 8 → n ≡ value (digits_of_bytes (take i bs))
    → bit_or (n * 2 ^ 8 % 2 ^ size) (get_or bs i 0) ≡ value (digits_of_bytes (take (i + 1) bs))
read_more size bs i n lt few small e =
    let front = take i bs in
    let long : length (digits_of_bytes front) ≤ size - 8 = omega (arith, length-bytes front, length-take i bs) in
    let below : n < 2 ^ (size - 8) = omega (arith, e, value-below (digits_of_bytes front), pow-le-pow_right {n = 2} (omega arith) {i = length (digits_of_bytes front)} {j = size - 8} long) in
    let whole : n * 2 ^ 8 % 2 ^ size ≡ n * 2 ^ 8 = shl_whole n (size - 8) 8 size below (omega arith) in
    let spelled : value (digits_of_bytes (take (i + 1) bs)) ≡ value (digits_of_bytes front) * 2 ^ 8 + get_or bs i 0 =
    rw (take_more bs i 0 lt, bytes_more front (get_or bs i 0), value-append (digits_of_bytes front) (digits 8 (get_or bs i 0)), length-digits 8 (get_or bs i 0), value-digits 8 (get_or bs i 0) small) refl in
    rw (whole, or_shifted n 8 (get_or bs i 0) small, spelled, ← e) refl

-- before the last octet is written
pub none_written : (bs : List ℕ) (n : ℕ) → digits_of_bytes (drop (length bs) bs) ≡ drop (8 * length bs) (digits (8 * length bs) n)
none_written bs n =
    ap digits_of_bytes (drop_all (length bs) bs (omega arith)) ∙ bytes-nil
    ∙ sym (drop_all (8 * length bs) (digits (8 * length bs) n) (omega (arith, length-digits (8 * length bs) n)))

-- one more octet is written, before those that are
pub write_more : (bs : List ℕ) (n rest i : ℕ) → 0 < i → i ≤ length bs → n < 2 ^ (8 * length bs) → rest ≡ n / 2 ^ (8 * (length bs - i))
    → digits_of_bytes (drop i bs) ≡ drop (8 * i) (digits (8 * length bs) n)
    → digits_of_bytes (drop (i - 1) (set bs (i - 1) (bit_and rest 255))) ≡ drop (8 * (i - 1)) (digits (8 * length bs) n)
write_more bs n rest i some room fits left written =
    let j = i - 1 in
    let r = 8 * (length bs - i) in
    let all = digits (8 * length bs) n in
    let total : 8 * j + 8 + r ≡ 8 * length bs = omega arith in
    let own : bit_and rest 255 ≡ n / 2 ^ r % 2 ^ 8 = and_mask rest 8 ∙ ap (λ (k : ℕ). k % 2 ^ 8) left in
    let part : field all (8 * j) 8 ≡ digits 8 (n / 2 ^ r % 2 ^ 8) =
    subst (λ (k : ℕ). field (digits k n) (8 * j) 8 ≡ digits 8 (n / 2 ^ r % 2 ^ 8)) total (field-digits (8 * j) 8 r n (subst (λ (k : ℕ). n < 2 ^ k) (sym total) fits)) in
    let next : j + 1 ≡ i = omega arith in
    let behind : 8 * j + 8 ≡ 8 * i = omega arith in
    ap digits_of_bytes (drop-set bs j (bit_and rest 255) (omega arith))
    ∙ bytes-cons (bit_and rest 255) (drop (j + 1) bs)
    ∙ ap (λ (k : ℕ). digits 8 k ++ digits_of_bytes (drop (j + 1) bs)) own
    ∙ ap (λ (k : ℕ). digits 8 (n / 2 ^ r % 2 ^ 8) ++ digits_of_bytes (drop k bs)) next
    ∙ ap (λ (x : List Bool). digits 8 (n / 2 ^ r % 2 ^ 8) ++ x) written
    ∙ ap (λ (x : List Bool). x ++ drop (8 * i) all) (sym part)
    ∙ ap (λ (k : ℕ). field all (8 * j) 8 ++ drop k all) (sym behind)
    ∙ ap (λ (x : List Bool). field all (8 * j) 8 ++ x) (sym (drop-drop 8 (8 * j) all))
    ∙ take-append-drop 8 (drop (8 * j) all)

-- what is left after the octets written
pub left_more : (n rest len i : ℕ) → 0 < i → i ≤ len → rest ≡ n / 2 ^ (8 * (len - i)) → rest / 2 ^ 8 ≡ n / 2 ^ (8 * (len - (i - 1)))
left_more n rest len i some room left =
    let total : 8 * (len - i) + 8 ≡ 8 * (len - (i - 1)) = omega arith in
    ap (λ (k : ℕ). k / 2 ^ 8) left ∙ shr-shr n (8 * (len - i)) 8 ∙ ap (λ (k : ℕ). n / 2 ^ k) total

pub none_left : (n len : ℕ) → n ≡ n / 2 ^ (8 * (len - len))
none_left n len = let none : 8 * (len - len) ≡ 0 = omega arith in rw none (omega arith)
