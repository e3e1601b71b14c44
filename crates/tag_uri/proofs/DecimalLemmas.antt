-- Decimal text and its number.
use Rattle.std.proofs.Common.{◌≡◌, ℕ, zero, suc, ◌+◌, ◌-◌, ◌*◌, ◌/◌, ◌%◌, ◌^◌, ◌<◌, ◌≤◌, List, [], ◌∷◌, ◌++◌, length, get_or, refl, sym, ap, ◌∙◌, arith, inl, inr, Ok, Err, Result}
use Rattle.std.specs.Prelude.{decimal}
use Rattle.std.proofs.Math.Nat.{pow-suc, one-le-pow, mod-eq_of_lt, div-eq_of_lt, pow-le-pow_right}
use Rattle.std.proofs.Math.Arith.{mod-mul}
use Rattle.std.proofs.lemmas.Nat.{same_from_place}
use Rattle.std.proofs.lemmas.Fmt.{digits_decimal, digits_value-decimal, decimal-digits_value, length-decimal-le, decimal_nonempty}
use Rattle.std.proofs.lemmas.Str.Parse.{IsDigitsTest, IsNumeralModel, WeighsDigits, numerals_by_weight, digits_value_short, parse_digits}
use Rattle.std.specs.Str.Parse.{ParsesUnsigned}
use Rattle.std.proofs.lemmas.Bool.{cases_lt, lt-ltb, eq-eqb}
use Rattle.std.specs.Prelude.{replicate, true, false, nat_lt, ◌==◌}
use Rattle.tag_uri.specs.Calls.Decimal.{AreDigits, IsPadded, IsPlain}
use Rattle.tag_uri.specs.Decimal.{decimal_value, padded}
use Rattle.tag_uri.specs.TagText.{is_zero_led}

weighs : WeighsDigits decimal_value
unfolding decimal_value
weighs = record { empty = refl; more = λ c cs r. refl }

tells : IsDigitsTest AreDigits
tells = record { empty = tt; parts = λ c cs h. h; more = λ c cs r h. (r, h) }

-- std's words for the same
pub own : IsNumeralModel AreDigits decimal_value
own = numerals_by_weight AreDigits tells decimal_value weighs

pub length-padded : (k n : ℕ) → length (padded k n) ≡ k
unfolding padded
length-padded zero n = refl
length-padded (suc k) n = ap suc (length-padded k n)

pub digits-padded : (k n : ℕ) → AreDigits (padded k n)
unfolding padded
digits-padded zero n = tt
digits-padded (suc k) n = ((omega arith, omega arith), digits-padded k n)

pub ten_pos : (k : ℕ) → 0 < 10 ^ k
ten_pos k = one-le-pow k 10 (omega arith)

pub last_part : (k n : ℕ) → n % 10 ^ suc k ≡ (n / 10 ^ k % 10) * 10 ^ k + n % 10 ^ k
last_part k n =
    let e : 10 ^ suc k ≡ 10 * 10 ^ k = omega (arith, pow-suc 10 k) in
    ap (λ (m : ℕ). n % m) e ∙ mod-mul n {m = 10} {c = 10 ^ k} (omega arith) (ten_pos k)

pub value-padded : (k n : ℕ) → decimal_value (padded k n) ≡ n % 10 ^ k
unfolding padded decimal_value
value-padded zero n = omega arith
value-padded (suc k) n = rw (length-padded k n, value-padded k n, last_part k n) (let d : 48 + n / 10 ^ k % 10 - 48 ≡ n / 10 ^ k % 10 = omega arith in rw d refl)

pub mod_small : (n m : ℕ) → n < m → n % m ≡ n
mod_small n m h = mod-eq_of_lt h

pub padded_is : (k n : ℕ) → n < 10 ^ k → IsPadded k n (padded k n)
padded_is k n h = record { count = length-padded k n; digits = digits-padded k n; number = value-padded k n ∙ mod_small n (10 ^ k) h }

pub value-below : (cs : List ℕ) → AreDigits cs → decimal_value cs < 10 ^ length cs
value-below cs h = digits_value_short own cs (length cs) h (omega arith)

-- two lists of as many digits with one number are equal
pub one_padded : (cs ds : List ℕ) → AreDigits cs → AreDigits ds → length cs ≡ length ds → decimal_value cs ≡ decimal_value ds → cs ≡ ds
unfolding decimal_value
one_padded [] [] h k l e = refl
one_padded [] (d ∷ ds) h k l e = absurd (omega arith)
one_padded (c ∷ cs) [] h k l e = absurd (omega arith)
one_padded (c ∷ cs) (d ∷ ds) h k l e =
    let tail : length cs ≡ length ds = omega arith in
    let f : (c - 48) * 10 ^ length cs + decimal_value cs ≡ (d - 48) * 10 ^ length cs + decimal_value ds = rw (← tail) at e in
    let below : decimal_value ds < 10 ^ length cs = rw tail (value-below ds k.1) in
    let both = same_from_place (c - 48) (decimal_value cs) (d - 48) (decimal_value ds) (10 ^ length cs) (value-below cs h.1) below f in
    let rest = one_padded cs ds h.1 k.1 tail both.1 in
    let first : c ≡ d = omega (arith, both.0, h.0, k.0) in
    rw (first, rest) refl

pub plain_is : (n : ℕ) → n < 2 ^ 64 → IsPlain n (decimal n)
plain_is n h = record {
  padded = record { count = refl; digits = digits_decimal own n h; number = digits_value-decimal own n h };
  some = decimal_nonempty n h;
  least = λ k one below. length-decimal-le k n one below h;
}

pub no_zero : (n : ℕ) (cs : List ℕ) → IsPlain n cs → get_or cs 0 0 ≡ 48 → length cs ≡ 1
unfolding decimal_value
no_zero n [] p e = absurd (omega (arith, p.some))
no_zero n (c ∷ []) p e = refl
no_zero n (c ∷ d ∷ cs) p e =
    let zero_first : c - 48 ≡ 0 = omega arith in
    let is : (c - 48) * 10 ^ length (d ∷ cs) + decimal_value (d ∷ cs) ≡ n = p.padded.number in
    let same : 0 * 10 ^ length (d ∷ cs) + decimal_value (d ∷ cs) ≡ n = rw zero_first at is in
    let below = value-below (d ∷ cs) p.padded.digits.1 in
    let least = p.least (length (d ∷ cs)) (omega arith) (omega (arith, same, below)) in
    absurd (omega (arith, least))

pub only_plain : (n : ℕ) (cs : List ℕ) → n < 2 ^ 64 → IsPlain n cs → cs ≡ decimal n
only_plain n cs h p =
    let number = p.padded.number in
    sym (decimal-digits_value own cs p.padded.digits p.some (no_zero n cs p) (rw number h)) ∙ ap (λ (k : ℕ). decimal k) number

-- what `parse` gives of digits
pub parse_over : {E : Type 0} (bs : List ℕ) (r : Result ℕ E) (e : E) (w : ℕ) → ParsesUnsigned 64 10 bs r → r ≡ Err e → AreDigits bs → 0 < length bs → w < 64 → 2 ^ w ≤ decimal_value bs
parse_over bs r e w h is d some narrow =
    let no = rw is at (parse_digits own 64 bs r h d) in
    let big : 2 ^ 64 ≤ decimal_value bs = elim (cases_lt (decimal_value bs) (2 ^ 64)) [ inl lt ↦ absurd (no (some, lt)) | inr ge ↦ omega arith ] in
    omega (arith, big, pow-le-pow_right {n = 2} (omega arith) {i = w} {j = 64} (omega arith))

pub parse_is : {E : Type 0} (bs : List ℕ) (r : Result ℕ E) (n : ℕ) → ParsesUnsigned 64 10 bs r → r ≡ Ok n → AreDigits bs → n ≡ decimal_value bs
parse_is bs r n h is d = (rw is at (parse_digits own 64 bs r h d)).1

pub shifted_over : (n k : ℕ) → (n / 2 ^ k ≡ 0 → ⊥) → 2 ^ k ≤ n
shifted_over n k h = elim (cases_lt n (2 ^ k)) [ inl lt ↦ absurd (h (div-eq_of_lt lt)) | inr ge ↦ omega arith ]

pub none_padded : (text : List ℕ) → length text ≡ 0 → text ≡ padded (length text) 0
unfolding padded
none_padded [] h = refl
none_padded (c ∷ cs) h = absurd (omega arith)

pub number_padded : (text : List ℕ) (n : ℕ) → AreDigits text → n ≡ decimal_value text → text ≡ padded (length text) n
number_padded text n h e =
    let below : n < 10 ^ length text = rw e (value-below text h) in
    let p = padded_is (length text) n below in
    one_padded text (padded (length text) n) h p.digits (sym p.count) (sym e ∙ sym p.number)

pub number_small : (text : List ℕ) → AreDigits text → length text ≤ 12 → decimal_value text < 2 ^ 63
number_small text h short =
    let wide : 10 ^ length text ≤ 10 ^ 12 = pow-le-pow_right {n = 10} (omega arith) {i = length text} {j = 12} short in
    omega (arith, value-below text h, wide)

value-zeros : (k : ℕ) (cs : List ℕ) → decimal_value (replicate k 48 ++ cs) ≡ decimal_value cs
unfolding decimal_value
value-zeros zero cs = refl
value-zeros (suc k) cs = omega (arith, value-zeros k cs)

digits-zeros : (k : ℕ) (cs : List ℕ) → AreDigits cs → AreDigits (replicate k 48 ++ cs)
digits-zeros zero cs h = h
digits-zeros (suc k) cs h = ((omega arith, omega arith), digits-zeros k cs h)

pub plain_short : (k n : ℕ) → n < 10 ^ k → 1 ≤ k → n < 2 ^ 64 → length (decimal n) ≤ k
plain_short k n below one small = (plain_is n small).least k one below

pub only_padded : (k n : ℕ) (text : List ℕ) → n < 10 ^ k → IsPadded k n text → text ≡ padded k n
only_padded k n text below p =
    let q = padded_is k n below in
    one_padded text (padded k n) p.digits q.digits (p.count ∙ sym q.count) (p.number ∙ sym q.number)

single : (text : List ℕ) → 0 < length text → is_zero_led text ≡ false → get_or text 0 0 ≡ 48 → length text ≡ 1
single [] some led e = absurd (omega arith)
single (c ∷ []) some led e = refl
single (c ∷ d ∷ cs) some led e =
    let two : nat_lt 1 (length (c ∷ d ∷ cs)) ≡ true = lt-ltb 1 (length (c ∷ d ∷ cs)) (omega arith) in
    let zero_first : (c == 48) ≡ true = eq-eqb c 48 e in
    let no : true ≡ false = rw (two, zero_first) at led in
    cc

-- digits that are not led by a zero are the plain text of their number
pub plain_text : (text : List ℕ) (n : ℕ) → AreDigits text → 0 < length text → is_zero_led text ≡ false → n < 2 ^ 64 → n ≡ decimal_value text → text ≡ decimal n
plain_text text n h some led small e =
    sym (decimal-digits_value own text h some (single text some led) (rw (← e) small)) ∙ ap (λ (k : ℕ). decimal k) (sym e)
