-- The numbers of a header, from its octets and from its digits.
use Rattle.std.proofs.Common.{◌≡◌, ℕ, zero, suc, ◌+◌, ◌-◌, ◌*◌, ◌^◌, ◌≤◌, Bool, List, [], ◌∷◌, ◌++◌, length, take, drop, refl, sym, ap, ◌∙◌, arith}
use Rattle.std.proofs.Math.Nat.{pow-suc}
use Rattle.std.proofs.Math.Seq.{take-append-add}
use Rattle.std.proofs.lemmas.List.{take-append-le, drop-append-le, length-take-le, length-drop, take_all}
use Rattle.std.proofs.lemmas.Nat.{pow-add}
use Rattle.byteorder.specs.Endian.{big_from, big_number}
use Rattle.byteorder.specs.Numbers.{big_from-cons}
use Rattle.tag_bits.specs.Digits.{value, digits, digits_of_bytes, field}
use Rattle.tag_bits.proofs.ByteLemmas.{length-bytes, bytes-cons, bytes-append, drop-bytes}
use Rattle.tag_bits.proofs.DigitLemmas.{length-digits, value-digits, value-append}
use Rattle.llrp_tree.specs.Lawful.{AreOctets}
use Rattle.llrp_tree.specs.FirstFault.{number}

pow_octets : (n : ℕ) → 2 ^ (8 * n) ≡ 256 ^ n
pow_octets zero = refl
pow_octets (suc n) =
    let e : 8 * suc n ≡ 8 * n + 8 = omega arith in
    ap (λ (k : ℕ). 2 ^ k) e ∙ pow-add 2 (8 * n) 8 ∙ ap (λ (k : ℕ). k * 256) (pow_octets n) ∙ sym (pow-suc 256 n)

none_value : value [] ≡ 0
unfolding value
none_value = refl

-- the number in the first octets is that of their digits
big_value : (n : ℕ) (bytes : List ℕ) → AreOctets bytes → n ≤ length bytes → big_from 0 n bytes ≡ value (take (8 * n) (digits_of_bytes bytes))
big_value zero bytes os le = sym none_value
big_value (suc n) [] os le = absurd (omega arith)
big_value (suc n) (b ∷ bytes) os le =
    let rest = take (8 * n) (digits_of_bytes bytes) in
    let long : length rest ≡ 8 * n = length-take-le (8 * n) (digits_of_bytes bytes) (omega (arith, length-bytes bytes)) in
    let e : 8 * suc n ≡ length (digits 8 b) + 8 * n = omega (arith, length-digits 8 b) in
    let cut : take (8 * suc n) (digits_of_bytes (b ∷ bytes)) ≡ digits 8 b ++ rest =
    ap (λ (k : ℕ). take k (digits_of_bytes (b ∷ bytes))) e ∙ ap (λ (x : List Bool). take (length (digits 8 b) + 8 * n) x) (bytes-cons b bytes) ∙ take-append-add (digits 8 b) (digits_of_bytes bytes) (8 * n) in
    let power : 2 ^ length rest ≡ 256 ^ n = ap (λ (k : ℕ). 2 ^ k) long ∙ pow_octets n in
    let own : value (digits 8 b) ≡ b = value-digits 8 b os.0 in
    ap (λ (x : ℕ). b * 256 ^ n + x) (big_from-cons 0 n b bytes ∙ big_value n bytes os.1 (omega arith))
    ∙ sym (ap value cut ∙ value-append (digits 8 b) rest ∙ ap (λ (x : ℕ). x * 2 ^ length rest + value rest) own ∙ ap (λ (x : ℕ). b * x + value rest) power)

pub octets-drop : (k : ℕ) (bytes : List ℕ) → AreOctets bytes → AreOctets (drop k bytes)
octets-drop zero bytes os = os
octets-drop (suc k) [] os = tt
octets-drop (suc k) (b ∷ bytes) os = octets-drop k bytes os.1

-- four octets from a place on
pub four_octets : (bytes : List ℕ) (k n : ℕ) → AreOctets bytes → k + 4 ≤ length bytes → n ≡ big_number 4 (take (length bytes - k) (drop k bytes)) → n ≡ number (digits_of_bytes bytes) (8 * k) 32
four_octets bytes k n os le e =
    e ∙ ap (λ (x : List ℕ). big_number 4 x) (take_all (length bytes - k) (drop k bytes) (omega (arith, length-drop k bytes)))
    ∙ big_value 4 (drop k bytes) (octets-drop k bytes os) (omega (arith, length-drop k bytes))
    ∙ ap (λ (x : List Bool). value (take 32 x)) (sym (drop-bytes k bytes (omega arith)))

-- a list's first field, where more follows
field-append : (xs ys : List Bool) (p w : ℕ) → p + w ≤ length xs → field (xs ++ ys) p w ≡ field xs p w
field-append xs ys p w le = ap (λ (x : List Bool). take w x) (drop-append-le p xs ys (omega arith)) ∙ take-append-le w (drop p xs) ys (omega (arith, length-drop p xs))

-- a number of the first bytes, where more follow
pub number-append : (xs ys : List ℕ) (p w : ℕ) → p + w ≤ 8 * length xs → number (digits_of_bytes (xs ++ ys)) p w ≡ number (digits_of_bytes xs) p w
number-append xs ys p w le =
    ap (λ (ds : List Bool). number ds p w) (bytes-append xs ys) ∙ ap value (field-append (digits_of_bytes xs) (digits_of_bytes ys) p w (omega (arith, length-bytes xs)))
