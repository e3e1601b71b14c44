-- Hexadecimal digits that blanks and colons divide.
use Rattle.std.proofs.Common.{◌≡◌, ℕ, zero, suc, ◌+◌, ◌*◌, ◌/◌, ◌%◌, ◌^◌, ◌<◌, ◌≤◌, Bool, true, false, List, [], ◌∷◌, ◌++◌, length, get_or, take, drop, refl, sym, ap, ◌∙◌, subst, arith, inl, inr, append_assoc, length-append}
use Rattle.std.specs.Prelude.{◌⊎◌, ◌==◌, ◌&&◌, slice_index, codes}
use Rattle.std.specs.Char.{to_ascii_uppercase}
use Rattle.std.proofs.Math.Nat.{pow-le-pow_right}
use Rattle.std.proofs.lemmas.Bool.{true≢false, cases_lt, eqb-true, and_parts}
use Rattle.std.proofs.lemmas.List.{append_cancel_left, append-nil, drop_more, drop_all, take_all}
use Rattle.tag_uri.specs.Hexadecimal.{hexadecimal, is_upper_digit}
use Rattle.tag_uri.proofs.HexadecimalLemmas.{upper_digits, length-hexadecimal, word_digits_of, one_number, read_more}
use Rattle.tag_forms.specs.Hexadecimal.{is_kept, kept_digits, IsHexOf}

-- ---- one step

pub kept_more : (c : ℕ) (cs : List ℕ) → is_kept c ≡ true → kept_digits (c ∷ cs) ≡ to_ascii_uppercase c ∷ kept_digits cs
kept_more c cs h = rw h refl

pub left_out : (c : ℕ) (cs : List ℕ) → is_kept c ≡ false → kept_digits (c ∷ cs) ≡ kept_digits cs
left_out c cs h = rw h refl

pub at_middle : (xs ys : List ℕ) (y : ℕ) → get_or (xs ++ y ∷ ys) (length xs) 0 ≡ y
at_middle [] ys y = refl
at_middle (x ∷ xs) ys y = at_middle xs ys y

take_front : (xs ys : List ℕ) → take (length xs) (xs ++ ys) ≡ xs
take_front [] ys = refl
take_front (x ∷ xs) ys = ap (λ (t : List ℕ). x ∷ t) (take_front xs ys)

take_whole : (n : ℕ) (xs : List ℕ) → length xs ≡ n → take n xs ≡ xs
take_whole n xs e = take_all n xs (omega (arith, e))

pub one_more : (k n d : ℕ) → d < 16 → hexadecimal (k + 1) (n * 16 + d) ≡ hexadecimal k n ++ slice_index upper_digits d ∷ []
one_more k n d small =
    let xs : List ℕ = hexadecimal k n ++ slice_index upper_digits d ∷ [] in
    let len : length (hexadecimal k n) ≡ k = length-hexadecimal k n in
    let whole : length xs ≡ k + 1 = length-append (hexadecimal k n) (slice_index upper_digits d ∷ []) ∙ ap (λ (i : ℕ). i + 1) len in
    let at : get_or xs k 0 ≡ slice_index upper_digits d = subst (λ (i : ℕ). get_or xs i 0 ≡ slice_index upper_digits d) len (at_middle (hexadecimal k n) [] (slice_index upper_digits d)) in
    let front : take k xs ≡ hexadecimal k n = subst (λ (i : ℕ). take i xs ≡ hexadecimal k n) len (take_front (hexadecimal k n) (slice_index upper_digits d ∷ [])) in
    let more = read_more xs k n d (omega (arith, whole)) small at front in
    sym more ∙ take_whole (k + 1) xs whole

-- what was read, and one digit more
pub digit_read : (octets : List ℕ) (i count n d : ℕ) → i < length octets → is_kept (get_or octets i 0) ≡ true → d < 16 → to_ascii_uppercase (get_or octets i 0) ≡ slice_index upper_digits d
    → kept_digits octets ≡ hexadecimal count n ++ kept_digits (drop i octets) → kept_digits octets ≡ hexadecimal (count + 1) (n * 16 + d) ++ kept_digits (drop (i + 1) octets)
digit_read octets i count n d lt kept small is e =
    let c : ℕ = get_or octets i 0 in
    let rest : kept_digits (drop i octets) ≡ slice_index upper_digits d ∷ kept_digits (drop (i + 1) octets) = ap kept_digits (drop_more octets i 0 lt) ∙ kept_more c (drop (i + 1) octets) kept ∙ ap (λ (u : ℕ). u ∷ kept_digits (drop (i + 1) octets)) is in
    e ∙ ap (λ (t : List ℕ). hexadecimal count n ++ t) rest ∙ sym (append_assoc (hexadecimal count n) (slice_index upper_digits d ∷ []) (kept_digits (drop (i + 1) octets)))
    ∙ ap (λ (t : List ℕ). t ++ kept_digits (drop (i + 1) octets)) (sym (one_more count n d small))

-- what was read, and a character that divides digits
pub none_read : (octets : List ℕ) (i count n : ℕ) → i < length octets → is_kept (get_or octets i 0) ≡ false
    → kept_digits octets ≡ hexadecimal count n ++ kept_digits (drop i octets) → kept_digits octets ≡ hexadecimal count n ++ kept_digits (drop (i + 1) octets)
none_read octets i count n lt kept e =
    e ∙ ap (λ (t : List ℕ). hexadecimal count n ++ t) (ap kept_digits (drop_more octets i 0 lt) ∙ left_out (get_or octets i 0) (drop (i + 1) octets) kept)

-- a number of at most 23 digits has room for one more in 128 bits
pub few_fit : (count n d : ℕ) → count ≤ 23 → d < 16 → n < 16 ^ count → n * 16 + d < 2 ^ 128
few_fit count n d few small h = omega (arith, h, small, pow-le-pow_right {n = 16} (omega arith) {i = count} {j = 23} few)

-- ---- no word

-- a character that is no digit
pub strange : (octets : List ℕ) (i count n w : ℕ) → i < length octets → count ≤ 23 → is_kept (get_or octets i 0) ≡ true → is_upper_digit (to_ascii_uppercase (get_or octets i 0)) ≡ false
    → kept_digits octets ≡ hexadecimal count n ++ kept_digits (drop i octets) → kept_digits octets ≡ hexadecimal 24 w → ⊥
strange octets i count n w lt few kept other e f =
    let c : ℕ = get_or octets i 0 in
    let rest : kept_digits (drop i octets) ≡ to_ascii_uppercase c ∷ kept_digits (drop (i + 1) octets) = ap kept_digits (drop_more octets i 0 lt) ∙ kept_more c (drop (i + 1) octets) kept in
    let whole : hexadecimal 24 w ≡ hexadecimal count n ++ to_ascii_uppercase c ∷ kept_digits (drop (i + 1) octets) = sym f ∙ e ∙ ap (λ (t : List ℕ). hexadecimal count n ++ t) rest in
    let at : get_or (hexadecimal 24 w) count 0 ≡ to_ascii_uppercase c = ap (λ (t : List ℕ). get_or t count 0) whole ∙ subst (λ (k : ℕ). get_or (hexadecimal count n ++ to_ascii_uppercase c ∷ kept_digits (drop (i + 1) octets)) k 0 ≡ to_ascii_uppercase c) (length-hexadecimal count n) (at_middle (hexadecimal count n) (kept_digits (drop (i + 1) octets)) (to_ascii_uppercase c)) in
    let digit = (word_digits_of w).digits count 0 (omega (arith, length-hexadecimal 24 w, few)) in
    true≢false (sym digit ∙ ap is_upper_digit at ∙ other)

-- a digit after 24
pub too_many : (octets : List ℕ) (i n w : ℕ) → i < length octets → is_kept (get_or octets i 0) ≡ true
    → kept_digits octets ≡ hexadecimal 24 n ++ kept_digits (drop i octets) → kept_digits octets ≡ hexadecimal 24 w → ⊥
too_many octets i n w lt kept e f =
    let c : ℕ = get_or octets i 0 in
    let rest : kept_digits (drop i octets) ≡ to_ascii_uppercase c ∷ kept_digits (drop (i + 1) octets) = ap kept_digits (drop_more octets i 0 lt) ∙ kept_more c (drop (i + 1) octets) kept in
    let long = ap length (sym f ∙ e ∙ ap (λ (t : List ℕ). hexadecimal 24 n ++ t) rest) in
    let sum = length-append (hexadecimal 24 n) (to_ascii_uppercase c ∷ kept_digits (drop (i + 1) octets)) in
    omega (arith, long, sum, length-hexadecimal 24 w, length-hexadecimal 24 n)

-- all of them
pub all_read : (octets : List ℕ) (i count n : ℕ) → length octets ≤ i → kept_digits octets ≡ hexadecimal count n ++ kept_digits (drop i octets) → kept_digits octets ≡ hexadecimal count n
all_read octets i count n done e = e ∙ ap (λ (t : List ℕ). hexadecimal count n ++ t) (ap kept_digits (drop_all i octets done)) ∙ append-nil (hexadecimal count n)

-- too few
pub too_few : (octets : List ℕ) (i count n w : ℕ) → length octets ≤ i → (count ≡ 24 → ⊥) → kept_digits octets ≡ hexadecimal count n ++ kept_digits (drop i octets) → kept_digits octets ≡ hexadecimal 24 w → ⊥
too_few octets i count n w done other e f =
    let len = ap length (sym f ∙ all_read octets i count n done e) in
    other (omega (arith, len, length-hexadecimal 24 w, length-hexadecimal count n))

-- ---- words

-- x is no digit
pub no_x : (w : ℕ) (digits : List ℕ) → kept_digits (codes "0x" ++ digits) ≡ hexadecimal 24 w → ⊥
no_x w digits e =
    let digit = (word_digits_of w).digits 1 0 (omega (arith, length-hexadecimal 24 w)) in
    let at : 88 ≡ get_or (hexadecimal 24 w) 1 0 = ap (λ (t : List ℕ). get_or t 1 0) e in
    let other : is_upper_digit 88 ≡ false = refl in
    true≢false (sym digit ∙ ap is_upper_digit (sym at) ∙ other)

pub no_word : (text digits : List ℕ) (w : ℕ) → (text ≡ digits) ⊎ (text ≡ codes "0x" ++ digits) → ((d : List ℕ) → text ≡ codes "0x" ++ d → d ≡ digits) → ((n : ℕ) → kept_digits digits ≡ hexadecimal 24 n → ⊥) → IsHexOf text w → ⊥
no_word text digits w left only none h = either left h.marked
  where
    either : (text ≡ digits) ⊎ (text ≡ codes "0x" ++ digits) → (text ≡ h.digits) ⊎ (text ≡ codes "0x" ++ h.digits) → ⊥
    either (inl a) (inl b) = none w (ap kept_digits (sym a ∙ b) ∙ h.are)
    either (inr a) (inl b) = no_x w digits (ap kept_digits (sym a ∙ b) ∙ h.are)
    either l (inr b) = none w (ap kept_digits (sym (only h.digits b)) ∙ h.are)

pub one_hex_word : (text : List ℕ) (v w : ℕ) → IsHexOf text v → IsHexOf text w → v ≡ w
one_hex_word text v w a b = either a.marked b.marked
  where
    same : a.digits ≡ b.digits → v ≡ w
    same e = one_number v w a.below b.below (sym a.are ∙ ap kept_digits e ∙ b.are)

    either : (text ≡ a.digits) ⊎ (text ≡ codes "0x" ++ a.digits) → (text ≡ b.digits) ⊎ (text ≡ codes "0x" ++ b.digits) → v ≡ w
    either (inl x) (inl y) = same (sym x ∙ y)
    either (inr x) (inr y) = same (append_cancel_left (codes "0x") a.digits b.digits (sym x ∙ y))
    either (inl x) (inr y) = absurd (no_x v b.digits (ap kept_digits (sym y ∙ x) ∙ a.are))
    either (inr x) (inl y) = absurd (no_x w a.digits (ap kept_digits (sym x ∙ y) ∙ b.are))

-- ---- digits as they are written

-- a test of each number below n
abbrev below : (ℕ → Bool) → ℕ → Bool
below p zero = true
below p (suc n) = p n && below p n

below-at : (p : ℕ → Bool) (n k : ℕ) → below p n ≡ true → k < n → p k ≡ true
below-at p zero k h lt = absurd (omega arith)
below-at p (suc n) k h lt =
    elim (cases_lt k n) [
      | inl less ↦ below-at p n k (and_parts _ _ h).1 less
      | inr ge ↦ let same : k ≡ n = omega arith in rw same (and_parts _ _ h).0
    ]

glyph_kept : (d : ℕ) → d < 16 → is_kept (slice_index upper_digits d) ≡ true
glyph_kept d h = below-at (λ e. is_kept (slice_index upper_digits e)) 16 d refl h

glyph_upper : (d : ℕ) → d < 16 → to_ascii_uppercase (slice_index upper_digits d) ≡ slice_index upper_digits d
glyph_upper d h = eqb-true _ _ (below-at (λ e. to_ascii_uppercase (slice_index upper_digits e) == slice_index upper_digits e) 16 d refl h)

pub digits_kept : (k n : ℕ) → kept_digits (hexadecimal k n) ≡ hexadecimal k n
unfolding hexadecimal
digits_kept zero n = refl
digits_kept (suc k) n =
    let d : ℕ = n / 16 ^ k % 16 in
    let small : d < 16 = omega arith in
    kept_more (slice_index upper_digits d) (hexadecimal k n) (glyph_kept d small) ∙ ap (λ (u : ℕ). u ∷ kept_digits (hexadecimal k n)) (glyph_upper d small) ∙ ap (λ (t : List ℕ). slice_index upper_digits d ∷ t) (digits_kept k n)
