-- Digits are read as they are spelled.
use Rattle.std.proofs.Common.{◌≡◌, ℕ, zero, suc, ◌+◌, ◌*◌, ◌^◌, ◌<◌, ◌≤◌, Bool, List, [], ◌∷◌, ◌++◌, length, take, drop, refl, sym, ap, subst, ◌∙◌, arith, append_assoc, length-append, length-drop}
use Rattle.std.proofs.lemmas.List.{length-take-le, drop-drop}
use Rattle.std.proofs.Math.Seq.{take-add}
use Rattle.tag_bits.specs.Digits.{value, digits, digits_of_bytes}
use Rattle.tag_bits.proofs.DigitLemmas.{length-digits, value-digits, value-below, digits-value, take-seam, drop-seam}
use Rattle.tag_bits.proofs.ByteLemmas.{bytes-cons, bytes-nil}
use Rattle.llrp_tree.specs.Lawful.{AreOctets}
use Rattle.llrp_tree.specs.FirstFault.{number, octets_at}

pub take_own : (w n : ℕ) (rest : List Bool) → take w (digits w n ++ rest) ≡ digits w n
take_own w n rest = take-seam w (digits w n) rest (length-digits w n)

pub drop_own : (w n : ℕ) (rest : List Bool) → drop w (digits w n ++ rest) ≡ rest
drop_own w n rest = drop-seam w (digits w n) rest (length-digits w n)

-- the first number
pub number_own : (w n : ℕ) (rest : List Bool) → n < 2 ^ w → value (take w (digits w n ++ rest)) ≡ n
number_own w n rest lt = ap value (take_own w n rest) ∙ value-digits w n lt

-- a number after others
pub number_behind : (v m place w : ℕ) (rest : List Bool) → number (digits v m ++ rest) (v + place) w ≡ number rest place w
number_behind v m place w rest =
    ap (λ (x : List Bool). value (take w x)) (sym (drop-drop place v (digits v m ++ rest))) ∙ ap (λ (x : List Bool). value (take w (drop place x))) (drop_own v m rest)

-- what is covered, with the next digits
pub covers_more : (old new x : List Bool) (at w : ℕ) (ds : List Bool) → old ≡ take at ds → new ≡ old ++ x → x ≡ take w (drop at ds) → new ≡ take (at + w) ds
covers_more old new x at w ds a b c = b ∙ ap (λ (y : List Bool). y ++ x) a ∙ ap (λ (y : List Bool). take at ds ++ y) c ∙ sym (take-add at w ds)

pub length_covered : (new : List Bool) (at : ℕ) (ds : List Bool) → new ≡ take at ds → at ≤ length ds → length new ≡ at
length_covered new at ds e le = ap (λ (y : List Bool). length y) e ∙ length-take-le at ds le

-- the digits from a place on are those of their number
pub digits_at : (at w : ℕ) (ds : List Bool) → at + w ≤ length ds → digits w (value (take w (drop at ds))) ≡ take w (drop at ds)
digits_at at w ds le =
    let long : length (take w (drop at ds)) ≡ w = length-take-le w (drop at ds) (omega (arith, length-drop at ds)) in
    subst (λ (k : ℕ). digits k (value (take w (drop at ds))) ≡ take w (drop at ds)) long (digits-value (take w (drop at ds)))

pub value_at : (at w : ℕ) (ds : List Bool) → at + w ≤ length ds → value (take w (drop at ds)) < 2 ^ w
value_at at w ds le =
    let long : length (take w (drop at ds)) ≡ w = length-take-le w (drop at ds) (omega (arith, length-drop at ds)) in
    subst (λ (k : ℕ). value (take w (drop at ds)) < 2 ^ k) long (value-below (take w (drop at ds)))

pub digits_take : (w : ℕ) (xs : List Bool) → w ≤ length xs → digits w (value (take w xs)) ≡ take w xs
digits_take w xs le = digits_at 0 w xs (omega arith)

pub length-more : (covered w : List Bool) (n : ℕ) → length w ≡ n → length (covered ++ w) ≡ length covered + n
length-more covered w n e = rw (length-append covered w, e) refl

-- ---- octets

pub length-octets_at : (n : ℕ) (xs : List Bool) → length (octets_at n xs) ≡ n
unfolding octets_at
length-octets_at zero xs = refl
length-octets_at (suc n) xs = ap suc (length-octets_at n (drop 8 xs))

pub are_octets_at : (n : ℕ) (xs : List Bool) → 8 * n ≤ length xs → AreOctets (octets_at n xs)
unfolding octets_at
are_octets_at zero xs le = tt
are_octets_at (suc n) xs le = (let a = value_at 0 8 xs (omega arith) in a, are_octets_at n (drop 8 xs) (omega (arith, length-drop 8 xs)))

-- octets that are read spell the digits that they were read from
pub octets_spelled : (n : ℕ) (xs : List Bool) → 8 * n ≤ length xs → digits_of_bytes (octets_at n xs) ≡ take (8 * n) xs
unfolding octets_at
octets_spelled zero xs le = bytes-nil
octets_spelled (suc n) xs le =
    let split : 8 * suc n ≡ 8 + 8 * n = omega arith in
    bytes-cons (value (take 8 xs)) (octets_at n (drop 8 xs))
    ∙ rw (digits_take 8 xs (omega arith), octets_spelled n (drop 8 xs) (omega (arith, length-drop 8 xs))) (sym (ap (λ (k : ℕ). take k xs) split ∙ take-add 8 (8 * n) xs))

-- octets that are spelled are read again
pub octets_again : (os : List ℕ) (rest : List Bool) → AreOctets os → octets_at (length os) (digits_of_bytes os ++ rest) ≡ os
unfolding octets_at
octets_again [] rest h = refl
octets_again (o ∷ os) rest h =
    let e : digits_of_bytes (o ∷ os) ++ rest ≡ digits 8 o ++ (digits_of_bytes os ++ rest) = ap (λ (x : List Bool). x ++ rest) (bytes-cons o os) ∙ append_assoc (digits 8 o) (digits_of_bytes os) rest in
    rw (e, number_own 8 o (digits_of_bytes os ++ rest) h.0, drop_own 8 o (digits_of_bytes os ++ rest), octets_again os rest h.1) refl
