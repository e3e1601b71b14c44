-- The octets of a number at the front of sixteen.
use Rattle.std.proofs.Common.{◌≡◌, ℕ, zero, suc, ◌+◌, ◌-◌, ◌*◌, ◌/◌, ◌%◌, ◌^◌, ◌<◌, ◌≤◌, List, [], ◌∷◌, ◌++◌, Bool, refl, sym, ap, ◌∙◌, subst, arith, append_assoc, length, take, length-append}
use Rattle.std.specs.Int.{bytes_high_first}
use Rattle.std.proofs.lemmas.Nat.{pow_pos, shr_below, mod_below}
use Rattle.std.proofs.Math.Nat.{pow-le-pow_right}
use Rattle.tag_bits.specs.Digits.{digits, digits_of_bytes}
use Rattle.tag_bits.proofs.DigitLemmas.{digits-join, digits-split, length-digits, take-seam}
use Rattle.tag_bits.proofs.ByteLemmas.{bytes-append, take-bytes}
use Rattle.llrp_tree.specs.Lawful.{AreOctets}
use Rattle.llrp_tree.specs.Calls.HeadOctets.{both_halves}
use Rattle.llrp_tree.specs.Calls.Writing.{Appends}
use Rattle.llrp_tree.proofs.OctetLemmas.{octets-append}
use Rattle.llrp_tree.proofs.SpellingLemmas.{below_joined, bytes_are_octets, bytes_spell, shift_fits}

octets_first : (k : ℕ) (xs : List ℕ) → AreOctets xs → AreOctets (take k xs)
octets_first zero xs h = tt
octets_first (suc k) [] h = tt
octets_first (suc k) (x ∷ xs) h = (h.0, octets_first k xs h.1)

length_bytes : (k n : ℕ) → length (bytes_high_first k n) ≡ k
length_bytes zero n = refl
length_bytes (suc k) n = ap suc (length_bytes k n)

-- the digits of the two halves
both_digits : (all : ℕ) → all < 2 ^ 128 → digits_of_bytes (both_halves (all / 2 ^ 64) (all % 2 ^ 64)) ≡ digits 128 all
both_digits all lt =
    let upper = all / 2 ^ 64 in
    let lower = all % 2 ^ 64 in
    bytes-append (bytes_high_first 8 upper) (bytes_high_first 8 lower)
    ∙ ap (λ (x : List Bool). x ++ digits_of_bytes (bytes_high_first 8 lower)) (bytes_spell 8 upper (shr_below all 64 64 lt))
    ∙ ap (λ (x : List Bool). digits 64 upper ++ x) (bytes_spell 8 lower (mod_below all (2 ^ 64) (pow_pos 64)))
    ∙ sym (digits-split 64 64 all lt)

-- the first octets of sixteen are those of the number
pub front_octets : (bits n : ℕ) → 8 ≤ bits → bits ≤ 128 → bits % 8 ≡ 0 → n < 2 ^ bits
    → (let all = n * 2 ^ (128 - bits) % 2 ^ 128 in Appends [] (take (bits / 8) (both_halves (all / 2 ^ 64) (all % 2 ^ 64))) (digits bits n))
front_octets bits n some few whole lt =
    let j = 128 - bits in
    let w : bits + j ≡ 128 = omega arith in
    let all = n * 2 ^ j % 2 ^ 128 in
    let is : all ≡ n * 2 ^ j + 0 = shift_fits bits j n lt (omega arith) ∙ omega arith in
    let below : all < 2 ^ 128 = mod_below (n * 2 ^ j) (2 ^ 128) (pow_pos 128) in
    let bytes = both_halves (all / 2 ^ 64) (all % 2 ^ 64) in
    let long : length bytes ≡ 16 = length-append (bytes_high_first 8 (all / 2 ^ 64)) (bytes_high_first 8 (all % 2 ^ 64)) in
    let seen : digits_of_bytes bytes ≡ digits bits n ++ digits j 0 =
    both_digits all below ∙ ap (λ (x : ℕ). digits 128 x) is ∙ ap (λ (x : ℕ). digits x (n * 2 ^ j + 0)) (sym w) ∙ digits-join bits j n 0 lt (pow_pos j) in
    let eight : 8 * (bits / 8) ≡ bits = omega arith in
    record {
      more = take (bits / 8) bytes;
      whole = refl;
      octets = octets_first (bits / 8) bytes (octets-append (bytes_high_first 8 (all / 2 ^ 64)) (bytes_high_first 8 (all % 2 ^ 64)) (bytes_are_octets 8 (all / 2 ^ 64)) (bytes_are_octets 8 (all % 2 ^ 64)));
      spelled =
          sym (take-bytes (bits / 8) bytes (omega (arith, long)))
          ∙ ap (λ (x : ℕ). take x (digits_of_bytes bytes)) eight
          ∙ ap (λ (x : List Bool). take bits x) seen
          ∙ take-seam bits (digits bits n) (digits j 0) (length-digits bits n);
    }

-- a number of at most 64 bits is 64 bits wide
pub small_number : (n bits : ℕ) → n < 2 ^ bits → bits ≤ 64 → n < 2 ^ 64
small_number n bits lt few = let p : 2 ^ bits ≤ 2 ^ 64 = pow-le-pow_right (omega arith) few in omega (arith, lt, p)

-- the same of eight octets, and eight zeros after them
pub narrow_octets : (bits n upper : ℕ) → 8 ≤ bits → bits ≤ 64 → bits % 8 ≡ 0 → n < 2 ^ bits → upper ≡ n * 2 ^ (64 - bits) % 2 ^ 64 → Appends [] (take (bits / 8) (both_halves upper 0)) (digits bits n)
narrow_octets bits n upper some few whole lt e =
    let j = 64 - bits in
    let w : bits + j ≡ 64 = omega arith in
    let fits : n * 2 ^ j + 0 < 2 ^ 64 = subst (λ (x : ℕ). n * 2 ^ j + 0 < 2 ^ x) w (below_joined bits j n 0 lt (pow_pos j)) in
    let is : upper ≡ n * 2 ^ j + 0 = e ∙ omega (arith, fits) in
    let below : upper < 2 ^ 64 = omega (arith, fits, is) in
    let bytes = both_halves upper 0 in
    let long : length bytes ≡ 16 = length-append (bytes_high_first 8 upper) (bytes_high_first 8 0) in
    let zeros = digits_of_bytes (bytes_high_first 8 0) in
    let seen : digits_of_bytes bytes ≡ digits bits n ++ (digits j 0 ++ zeros) =
    bytes-append (bytes_high_first 8 upper) (bytes_high_first 8 0)
    ∙ ap (λ (x : List Bool). x ++ zeros) (bytes_spell 8 upper below ∙ ap (λ (x : ℕ). digits 64 x) is ∙ ap (λ (x : ℕ). digits x (n * 2 ^ j + 0)) (sym w) ∙ digits-join bits j n 0 lt (pow_pos j))
    ∙ append_assoc (digits bits n) (digits j 0) zeros in
    let eight : 8 * (bits / 8) ≡ bits = omega arith in
    record {
      more = take (bits / 8) bytes;
      whole = refl;
      octets = octets_first (bits / 8) bytes (octets-append (bytes_high_first 8 upper) (bytes_high_first 8 0) (bytes_are_octets 8 upper) (bytes_are_octets 8 0));
      spelled =
          sym (take-bytes (bits / 8) bytes (omega (arith, long)))
          ∙ ap (λ (x : ℕ). take x (digits_of_bytes bytes)) eight
          ∙ ap (λ (x : List Bool). take bits x) seen
          ∙ take-seam bits (digits bits n) (digits j 0 ++ zeros) (length-digits bits n);
    }
