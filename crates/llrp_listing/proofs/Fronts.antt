-- Octets that are appended and then cut off again.
use Rattle.std.proofs.Common.{◌≡◌, ℕ, zero, suc, ◌+◌, ◌≤◌, List, [], ◌∷◌, ◌++◌, length, take, refl, sym, ap, ◌∙◌, append_assoc, arith}

taken_after : (k : ℕ) (xs ys : List ℕ) → take (length xs + k) (xs ++ ys) ≡ xs ++ take k ys
taken_after k [] ys = let none : 0 + k ≡ k = omega arith in ap (λ (n : ℕ). take n ys) none
taken_after k (x ∷ xs) ys =
    let more : length (x ∷ xs) + k ≡ suc (length xs + k) = omega arith in
    ap (λ (n : ℕ). take n (x ∷ (xs ++ ys))) more ∙ ap (λ (z : List ℕ). x ∷ z) (taken_after k xs ys)

-- two pieces, and then a cut
pub cut_after : (count end : ℕ) (old mid all cut upper lower : List ℕ) → mid ≡ old ++ upper → all ≡ mid ++ lower → end ≡ length old + count → cut ≡ take end all → cut ≡ old ++ take count (upper ++ lower)
cut_after count end old mid all cut upper lower e f n c =
    let whole : all ≡ old ++ (upper ++ lower) = f ∙ ap (λ (z : List ℕ). z ++ lower) e ∙ append_assoc old upper lower in
    c ∙ ap (λ (i : ℕ). take i all) n ∙ ap (λ (z : List ℕ). take (length old + count) z) whole ∙ taken_after count old (upper ++ lower)

taken_within : (k : ℕ) (xs ys : List ℕ) → k ≤ length xs → take k xs ≡ take k (xs ++ ys)
taken_within k [] ys le = let none : k ≡ 0 = omega (arith, le) in ap (λ (n : ℕ). take n []) none ∙ sym (ap (λ (n : ℕ). take n ys) none)
taken_within zero (x ∷ xs) ys le = refl
taken_within (suc k) (x ∷ xs) ys le = ap (λ (z : List ℕ). x ∷ z) (taken_within k xs ys (omega (arith, le)))

-- one piece, and then a cut within it
pub cut_within : (count end : ℕ) (old all cut upper lower : List ℕ) → all ≡ old ++ upper → end ≡ length old + count → cut ≡ take end all → count ≤ length upper → cut ≡ old ++ take count (upper ++ lower)
cut_within count end old all cut upper lower e n c few =
    c ∙ ap (λ (i : ℕ). take i all) n ∙ ap (λ (z : List ℕ). take (length old + count) z) e ∙ taken_after count old upper ∙ ap (λ (z : List ℕ). old ++ z) (taken_within count upper lower few)
